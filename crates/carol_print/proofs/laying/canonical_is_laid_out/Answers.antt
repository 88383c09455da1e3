use Rattle.carol_print.proofs.LaidFiles.{canonical_laid as law}
use Rattle.carol_print.proofs.laying.canonical_is_laid_out.Goals as goal

pub returns : goal.returns
returns c = law
