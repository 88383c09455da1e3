use Rattle.carol_program.specs.Rules.{rules_in}
use Rattle.carol_obligation.proofs.Handing.{handing_more}
use Rattle.carol_obligation.proofs.whole.walk_all.Goals as goal

pub loop-op-preserved : goal.loop-op-preserved
loop-op-preserved g c =
    handing_more g.C.Collector.holds c.args.collector.now c.loop-op.collector c.walk.new.collector (rules_in c.args.program.now) c.loop-op.number _ _ _ c.loop-op.invariant c.in-Some.ensures.cases.0 c.in_ok-walk.ensures
