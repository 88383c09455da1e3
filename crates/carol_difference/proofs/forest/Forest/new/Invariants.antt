use Rattle.carol_difference.proofs.Starting.{IsStart}
use Rattle.carol_difference.proofs.forest.Forest.new.Given as goal

abbrev pub invariant-loop-node : goal.invariant-loop-node
invariant-loop-node l = IsStart l.node l.entries.items l.latest.items
