use Rattle.std.proofs.Common.{◌+◌, length}
use Rattle.carol_formula.specs.Bounds.{term_limit}
use Rattle.carol_formula.proofs.Merging.{Merging}
use Rattle.carol_formula.proofs.term.merged.Given as goal

abbrev pub invariant-loop-other : goal.invariant-loop-other
invariant-loop-other l = Merging term_limit l.fn.ones l.fn.by l.fn.others l.out.items l.left l.right

abbrev pub decreases-loop-other : goal.decreases-loop-other
decreases-loop-other l = length l.left + length l.right
