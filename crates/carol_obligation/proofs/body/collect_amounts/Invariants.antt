use Rattle.std.proofs.Common.{length}
use Rattle.carol_program.specs.Rules.{rules_in}
use Rattle.carol_obligation.specs.Ready.{point_at}
use Rattle.carol_obligation.proofs.Loops.{Amounting}
use Rattle.carol_obligation.proofs.body.collect_amounts.Given as goal

abbrev pub invariant-loop-part : goal.invariant-loop-part
invariant-loop-part g l = Amounting g.C.Collector.holds l.fn.collector l.collector (rules_in l.at.of.program.now) (point_at l.at) l.number l.atom l.left l.parts

abbrev pub decreases-loop-part : goal.decreases-loop-part
decreases-loop-part g l = length l.left
