use Rattle.carol_prepare.specs.Named.{IsToldName, NamesSay}
use Rattle.carol_prepare.specs.Parts.{ProgramSays}
use Rattle.carol_prepare.proofs.Told.{err_map, of_file, of_name}
use Rattle.carol_prepare.proofs.parts.take_program.Goals as goal
use Rattle.carol_reply.specs.Reply.{HaltSays}
use Rattle.carol_syntax.specs.Files.{file_tree, program_tree}

pub returns-clause-told : goal.returns-clause-told
returns-clause-told c =
    err_map (HaltSays (IsToldName (program_tree c.in_ok-file.file.program))) (HaltSays (ProgramSays (λ _ _. ⊥) c.args.bytes.now))
    (λ halt h. of_file (λ file. NamesSay (λ _ _. ⊥) file.program) c.args.bytes.now (file_tree c.in_ok-file.file) halt c.in_ok-file.ensures.read
    (of_name (λ _ _. ⊥) (program_tree c.in_ok-file.file.program) halt h)) c.program_of.result c.program_of.ensures.told
