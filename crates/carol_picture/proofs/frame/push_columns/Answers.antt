use Rattle.std.proofs.Common.{◌++◌, length}
use Rattle.carol_picture.specs.Frame.{column, columns}
use Rattle.carol_picture.proofs.Ranges.{numbers_more}
use Rattle.carol_picture.proofs.frame.push_columns.Goals as goal

pub loop-session-preserved : goal.loop-session-preserved
loop-session-preserved c =
    rw c.in_ok-push_column.ensures
    (numbers_more (column c.args.plans.now c.args.bottom) c.loop-session.out.items c.loop-session.session (length c.args.plans.now)
    (c.args.out.now.items ++ columns c.args.plans.now c.args.bottom) c.loop-session-test.true c.loop-session.invariant)
