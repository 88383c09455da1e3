use Rattle.carol_linear.proofs.Following.{FollowsAll}
use Rattle.carol_linear.proofs.pruning.copied.Given as goal

abbrev pub invariant-loop-at : goal.invariant-loop-at
invariant-loop-at l = FollowsAll l.steps l.marks l.names l.at l.pruned.places.items l.pruned.steps
