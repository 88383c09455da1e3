use Rattle.std.proofs.Common.{length}
use Rattle.carol_accord.proofs.Listed.{Listing}
use Rattle.carol_accord.proofs.steps.all_steps.Given as goal

abbrev pub invariant-loop-kind : goal.invariant-loop-kind
invariant-loop-kind l = Listing l.kinds l.left l.cell l.steps.items

abbrev pub decreases-loop-kind : goal.decreases-loop-kind
decreases-loop-kind l = length l.left
