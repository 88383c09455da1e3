use Rattle.carol_obligation.proofs.Guarded.{good-safe}
use Rattle.carol_obligation.proofs.Encoded.{safe-good}
use Rattle.carol_obligation.proofs.goodness.good_laws.Goals as goal

pub returns : goal.returns
returns c = λ p op rules over. (safe-good p op rules over, λ good. good-safe p op good over)
