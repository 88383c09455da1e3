use Rattle.carol_program.specs.Rules.{rules_in}
use Rattle.carol_obligation.specs.Ready.{point_of}
use Rattle.carol_obligation.proofs.Loops.{Walking}
use Rattle.carol_obligation.proofs.body.+walk_body.Given as goal

abbrev pub decreases-walk_body : goal.decreases-walk_body
decreases-walk_body g l = goal.size-walk_body g l

abbrev pub invariant-loop-step : goal.invariant-loop-step
invariant-loop-step g l = Walking g.C.Collector.holds l.fn.collector l.collector (rules_in l.of.program.now) (point_of l.of l.standing) l.step (point_of l.fn.of l.fn.standing) l.fn.body
