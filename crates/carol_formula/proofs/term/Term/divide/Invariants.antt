use Rattle.std.proofs.Common.{◌≡◌, ◌++◌, length}
use Rattle.std.specs.Prelude.{unsigned_abs}
use Rattle.carol_formula.specs.Division.{EachDivides, quotients}
use Rattle.carol_formula.proofs.term.Term.divide.Given as goal

abbrev pub invariant-loop-pair : goal.invariant-loop-pair
invariant-loop-pair l = l.pairs.items ++ quotients (unsigned_abs l.fn.by) l.left ≡ quotients (unsigned_abs l.fn.by) l.fn.self.pairs

abbrev pub decreases-loop-pair : goal.decreases-loop-pair
decreases-loop-pair l = length l.left
