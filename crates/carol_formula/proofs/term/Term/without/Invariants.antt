use Rattle.std.proofs.Common.{length}
use Rattle.carol_formula.proofs.Replacing.{Sifting}
use Rattle.carol_formula.proofs.term.Term.without.Given as goal

abbrev pub invariant-loop-pair : goal.invariant-loop-pair
invariant-loop-pair l = Sifting l.fn.v l.fn.self.pairs l.pairs.items l.left

abbrev pub decreases-loop-pair : goal.decreases-loop-pair
decreases-loop-pair l = length l.left
