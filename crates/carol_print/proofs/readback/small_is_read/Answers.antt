use Rattle.carol_print.proofs.Smallness.{small_is_read as law}
use Rattle.carol_print.proofs.readback.small_is_read.Goals as goal

pub returns : goal.returns
returns c = law
