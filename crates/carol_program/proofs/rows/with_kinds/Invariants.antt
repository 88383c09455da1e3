use Rattle.std.proofs.Common.{length}
use Rattle.carol_program.proofs.Holdings.{Holding}
use Rattle.carol_program.proofs.rows.with_kinds.Given as goal

abbrev pub invariant-loop-kind : goal.invariant-loop-kind
invariant-loop-kind l = Holding l.kinds l.base l.fn.known l.left l.variable l.known

abbrev pub decreases-loop-kind : goal.decreases-loop-kind
decreases-loop-kind l = length l.left
