use Rattle.carol_formula.specs.Tree.{claim_of}
use Rattle.carol_decide.specs.Sizes.{weight_of}
use Rattle.carol_decide.specs.State.{IsAt, rank_of}
use Rattle.carol_decide.proofs.decide.Given as goal

abbrev pub invariant-loop-walk : goal.invariant-loop-walk
invariant-loop-walk l = IsAt (claim_of l.formula) l.leaves l.walk

abbrev pub decreases-loop-walk : goal.decreases-loop-walk
decreases-loop-walk l = rank_of (weight_of (claim_of l.formula)) l.walk
