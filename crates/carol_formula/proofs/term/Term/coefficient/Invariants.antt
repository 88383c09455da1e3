use Rattle.std.proofs.Common.{length}
use Rattle.carol_formula.proofs.Replacing.{Seeking}
use Rattle.carol_formula.proofs.term.Term.coefficient.Given as goal

abbrev pub invariant-loop-pair : goal.invariant-loop-pair
invariant-loop-pair l = Seeking l.fn.v l.fn.self.pairs l.left

abbrev pub decreases-loop-pair : goal.decreases-loop-pair
decreases-loop-pair l = length l.left
