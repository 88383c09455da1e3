use Rattle.std.proofs.Common.{length}
use Rattle.carol_formula.proofs.Places.{Placing}
use Rattle.carol_formula.proofs.variable.place_of.Given as goal

abbrev pub invariant-loop-number : goal.invariant-loop-number
invariant-loop-number l = Placing l.fn.v l.fn.numbers l.left

abbrev pub decreases-loop-number : goal.decreases-loop-number
decreases-loop-number l = length l.left
