use Rattle.std.proofs.Common.{◌++◌}
use Rattle.carol_picture.specs.Frame.{lane, lanes}
use Rattle.carol_picture.proofs.Ranges.{numbers_more}
use Rattle.carol_picture.proofs.frame.push_lanes.Goals as goal

pub loop-replica-preserved : goal.loop-replica-preserved
loop-replica-preserved c =
    rw c.in_ok-push_lane.ensures
    (numbers_more (lane c.args.plans.now c.args.bottom) c.loop-replica.out.items c.loop-replica.replica c.args.replicas
    (c.args.out.now.items ++ lanes c.args.plans.now c.args.replicas c.args.bottom) c.loop-replica-test.true c.loop-replica.invariant)
