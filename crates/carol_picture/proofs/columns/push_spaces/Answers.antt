use Rattle.std.proofs.Common.{◌++◌}
use Rattle.std.specs.Prelude.{replicate}
use Rattle.carol_picture.proofs.Ranges.{spaces_more}
use Rattle.carol_picture.proofs.columns.push_spaces.Goals as goal

pub loop-preserved : goal.loop-preserved
loop-preserved c =
    spaces_more c.loop.out.items c.push.new.self.items c.loop.counter c.args.count (c.args.out.now.items ++ replicate c.args.count 32)
    c.loop-test.true c.in_ok-push.ensures.items c.loop.invariant
