use Rattle.carol_difference.specs.Forest.{entry_at}
use Rattle.carol_difference.proofs.Tracing.{IsTrace}
use Rattle.carol_difference.proofs.forest.Forest.cycle.Given as goal

abbrev pub invariant-loop-start : goal.invariant-loop-start
invariant-loop-start l = IsTrace l.nodes l.edges l.self.entries.items l.passed.items l.trail.items l.at

abbrev pub decreases-loop-start : goal.decreases-loop-start
decreases-loop-start l = (entry_at l.self.entries.items l.at).depth
