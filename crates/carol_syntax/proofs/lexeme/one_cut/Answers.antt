use Rattle.carol_syntax.specs.Place.{start}
use Rattle.carol_syntax.proofs.Cutting.{cut_once}
use Rattle.carol_syntax.proofs.lexeme.one_cut.Goals as goal

pub returns : goal.returns
returns c = λ bytes xs ys s t d e h k. cut_once start bytes xs ys s t d e h k
