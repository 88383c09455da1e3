use Rattle.carol_difference.specs.Evidence.{GivesNumbers}
use Rattle.carol_difference.proofs.evidence.valuation.Given as goal

abbrev pub invariant-loop-index : goal.invariant-loop-index
invariant-loop-index l = GivesNumbers l.variables l.values l.index l.numbers
