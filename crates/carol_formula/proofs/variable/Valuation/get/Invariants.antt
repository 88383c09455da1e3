use Rattle.std.proofs.Common.{length}
use Rattle.carol_formula.proofs.Places.{Looking}
use Rattle.carol_formula.proofs.variable.Valuation.get.Given as goal

abbrev pub invariant-loop-number : goal.invariant-loop-number
invariant-loop-number l = Looking l.fn.v l.fn.self l.left

abbrev pub decreases-loop-number : goal.decreases-loop-number
decreases-loop-number l = length l.left
