use Rattle.carol_syntax.specs.Files.{file_tree}
use Rattle.carol_kept_run.proofs.Askings.{has_only, none_only}
use Rattle.carol_kept_run.proofs.ready.has_script.Goals as goal

pub returns-in-Ok : goal.returns-in-Ok
returns-in-Ok c = has_only c.args.bytes.now (file_tree c.in-Ok.file) c.is_scripted.result c.in-Ok.ensures.only c.is_scripted.ensures

pub returns-in-Err : goal.returns-in-Err
returns-in-Err c = none_only c.args.bytes.now c.in-Err.error c.not_read.result c.in-Err.ensures.only c.not_read.ensures
