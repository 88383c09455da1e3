use Rattle.std.proofs.Common.{◌≡◌, length}
use Rattle.carol_elimination.proofs.stage.same_coefficients.Given as goal

abbrev pub invariant-loop-first : goal.invariant-loop-first
invariant-loop-first l = l.left ≡ l.right → l.one.pairs ≡ l.other.pairs

abbrev pub decreases-loop-first : goal.decreases-loop-first
decreases-loop-first l = length l.left
