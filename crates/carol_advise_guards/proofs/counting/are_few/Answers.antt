use Rattle.std.proofs.Common.{◌≤◌, ◌*◌, arith}
use Rattle.std.proofs.Math.Nat.{mul-le-mul}
use Rattle.carol_advise_guards.proofs.Powers.{few_slots, many_slots, one_more}
use Rattle.carol_advise_guards.proofs.counting.are_few.Goals as goal

pub overflow_mul-count : goal.overflow_mul-count
overflow_mul-count c = let most : c.loop-slot.count * c.args.guards ≤ 4096 * 4096 = mul-le-mul c.loop-slot.invariant.1 c.requires in omega (arith, most)

pub returns-then-count-gt-MOST_ASSIGNMENTS : goal.returns-then-count-gt-MOST_ASSIGNMENTS
returns-then-count-gt-MOST_ASSIGNMENTS c =
    many_slots c.args.guards c.loop-slot._slot c.args.slots c.loop-slot.count c.loop-slot.invariant.0 c.loop-slot-test.true c.if-count-gt-MOST_ASSIGNMENTS.true

pub loop-slot-preserved : goal.loop-slot-preserved
loop-slot-preserved c = (one_more c.args.guards c.loop-slot._slot c.loop-slot.count c.loop-slot.invariant.0, c.if-count-gt-MOST_ASSIGNMENTS.false)

pub returns : goal.returns
returns c =
    few_slots c.args.guards c.loop-slot._slot c.args.slots c.loop-slot.count c.loop-slot.invariant.0 c.loop-slot.auto._slot-end c.loop-slot-test.false c.loop-slot.invariant.1
