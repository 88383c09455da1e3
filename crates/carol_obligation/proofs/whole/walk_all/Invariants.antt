use Rattle.std.proofs.Common.{length}
use Rattle.carol_program.specs.Rules.{rules_in}
use Rattle.carol_obligation.proofs.Handing.{Handing}
use Rattle.carol_obligation.proofs.whole.walk_all.Given as goal

abbrev pub invariant-loop-op : goal.invariant-loop-op
invariant-loop-op g l = Handing g.C.Collector.holds l.fn.collector l.collector (rules_in l.program) l.number l.left

abbrev pub decreases-loop-op : goal.decreases-loop-op
decreases-loop-op g l = length l.left
