use Rattle.carol_print.proofs.Again.{laid_out as law}
use Rattle.carol_print.proofs.laying.laid_out.Goals as goal

pub returns : goal.returns
returns c = law
