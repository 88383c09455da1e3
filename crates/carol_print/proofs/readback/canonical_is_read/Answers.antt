use Rattle.carol_print.proofs.ReadFiles.{canonical_is_read as law}
use Rattle.carol_print.proofs.readback.canonical_is_read.Goals as goal

pub returns : goal.returns
returns c = law
