use Rattle.std.proofs.Common.{length}
use Rattle.carol_formula.proofs.Summing.{Summing}
use Rattle.carol_formula.proofs.term.Term.value_within.Given as goal

abbrev pub invariant-loop-pair : goal.invariant-loop-pair
invariant-loop-pair g l = Summing l.fn.limit l.fn.self (g.L.Lookup.numbers l.fn.at) l.sum l.left

abbrev pub decreases-loop-pair : goal.decreases-loop-pair
decreases-loop-pair g l = length l.left
