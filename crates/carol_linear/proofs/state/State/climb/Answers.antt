use Rattle.std.proofs.Common.{sym, ◌∙◌, arith}
use Rattle.carol_cert.specs.Proof.{proof_of}
use Rattle.carol_linear.proofs.Climbing.{at_high, frame_number, left_under, high_falls, left_waits}
use Rattle.carol_linear.proofs.state.State.climb.Goals as goal

pub returns-in-None-clause-above : goal.returns-in-None-clause-above
returns-in-None-clause-above c start h =
    let left = c.in-Some.ensures.some in
    let entered = c.in_ok-enter-in-None.ensures in
    at_high start c.loop-frame.self c.leave.new.self c.enter.new.self c.loop-frame.tree left.last entered.last (c.loop-frame.invariant.under start h) left.leaves (sym left.same.low ∙ c.in-None.is) entered.enters (entered.same.variable ∙ left.same.variable) (entered.same.k ∙ frame_number c.in-Some.frame ∙ left.same.k) entered.same.low

pub returns-in-None-clause-falls : goal.returns-in-None-clause-falls
returns-in-None-clause-falls c =
    let left = c.in-Some.ensures.some in
    let entered = c.in_ok-enter-in-None.ensures in
    let falls = high_falls c.loop-frame.self c.leave.new.self c.enter.new.self c.loop-frame.tree left.last entered.last left.leaves (sym left.same.low ∙ c.in-None.is) entered.enters entered.same.low in
    omega (arith, c.loop-frame.invariant.waiting, falls)

pub loop-frame-preserved : goal.loop-frame-preserved
loop-frame-preserved c =
    let left = c.in-Some.ensures.some in
    let waits = left_waits c.loop-frame.self c.leave.new.self c.in-Some.frame c.in-Some-low.low left c.in-Some-low.is in
    record {
      under = λ start h. left_under c.loop-frame.self c.leave.new.self c.in-Some.frame c.in-Some-low.low (proof_of c.loop-frame.tree) (proof_of c.in_ok-tree-in-Some-low.tree) left c.in-Some-low.is c.in_ok-tree-in-Some-low.ensures start (c.loop-frame.invariant.under start h);
      waiting = omega (arith, c.loop-frame.invariant.waiting, waits);
      left = left.leaves.keeps.left ∙ c.loop-frame.invariant.left;
    }

pub loop-frame-preserved-in_ok-tree-in-Some-low : goal.loop-frame-preserved-in_ok-tree-in-Some-low
loop-frame-preserved-in_ok-tree-in-Some-low c =
    let left = c.in-Some.ensures.some in
    let waits = left_waits c.loop-frame.self c.leave.new.self c.in-Some.frame c.in-Some-low.low left c.in-Some-low.is in
    record {
      under = λ start h. left_under c.loop-frame.self c.leave.new.self c.in-Some.frame c.in-Some-low.low (proof_of c.loop-frame.tree) (proof_of c.in_ok-tree-in-Some-low.tree) left c.in-Some-low.is c.in_ok-tree-in-Some-low.ensures start (c.loop-frame.invariant.under start h);
      waiting = omega (arith, c.loop-frame.invariant.waiting, waits);
      left = left.leaves.keeps.left ∙ c.loop-frame.invariant.left;
    }
