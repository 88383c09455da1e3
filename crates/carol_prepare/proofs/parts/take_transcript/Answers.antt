use Rattle.carol_prepare.specs.Parts.{Nothing, PartsSay, TakesSay, with_tail}
use Rattle.carol_prepare.proofs.Told.{err_map, of_file}
use Rattle.carol_prepare.proofs.parts.take_transcript.Goals as goal
use Rattle.carol_reply.specs.Reply.{HaltSays}
use Rattle.carol_syntax.specs.Files.{file_tree, program_tree}

pub returns-clause-told : goal.returns-clause-told
returns-clause-told c =
    err_map (HaltSays (TakesSay c.args.word.now Nothing (program_tree c.in_ok-file.file.program) (with_tail (file_tree c.in_ok-file.file)))) (HaltSays (PartsSay c.args.word.now with_tail Nothing c.args.bytes.now))
    (λ halt h. of_file (λ file. TakesSay c.args.word.now Nothing file.program (with_tail file)) c.args.bytes.now (file_tree c.in_ok-file.file) halt c.in_ok-file.ensures.read h)
    c.transcript_in.result c.transcript_in.ensures.told
