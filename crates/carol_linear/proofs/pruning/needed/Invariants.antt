use Rattle.carol_linear.proofs.Marking.{IsMarkedFrom}
use Rattle.carol_linear.proofs.pruning.needed.Given as goal

abbrev pub invariant-loop-at : goal.invariant-loop-at
invariant-loop-at l = IsMarkedFrom l.at l.marks.items l.steps
