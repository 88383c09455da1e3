use Rattle.carol_obligation.proofs.Exact.{formulas_are_exact}
use Rattle.carol_obligation.proofs.truths.truth_laws.Goals as goal

pub returns : goal.returns
returns c = formulas_are_exact
