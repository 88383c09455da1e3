use Rattle.std.proofs.Common.{ap}
use Rattle.std.specs.Prelude.{Err}
use Rattle.carol_meaning.proofs.ShortLaws.{short-program}
use Rattle.carol_prepare.proofs.Told.{told_name}
use Rattle.carol_prepare.proofs.named.program_of.Goals as goal
use Rattle.carol_syntax.specs.Files.{program_tree}

pub resolve-requires-clause-size : goal.resolve-requires-clause-size
resolve-requires-clause-size c = short-program _ c.requires.size.program

pub returns-in-Err-clause-told : goal.returns-in-Err-clause-told
returns-in-Err-clause-told c =
    told_name (program_tree c.args.file.now.program) c.in-Err.error c.bad_name.result (λ f is. c.in-Err.ensures.wrong f (ap Err is)) c.bad_name.ensures
