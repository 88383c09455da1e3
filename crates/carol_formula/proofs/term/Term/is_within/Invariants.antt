use Rattle.std.proofs.Common.{length}
use Rattle.std.specs.Prelude.{◌↔◌}
use Rattle.carol_formula.specs.Linear.{AllBelow}
use Rattle.carol_formula.proofs.term.Term.is_within.Given as goal

abbrev pub invariant-loop-pair : goal.invariant-loop-pair
invariant-loop-pair l = AllBelow l.fn.limit l.left ↔ AllBelow l.fn.limit l.fn.self.pairs

abbrev pub decreases-loop-pair : goal.decreases-loop-pair
decreases-loop-pair l = length l.left
