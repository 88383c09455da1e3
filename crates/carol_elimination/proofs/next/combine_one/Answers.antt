use Rattle.std.proofs.Common.{get_or, arith}
use Rattle.carol_elimination.specs.Entries.{row_in, rows_in}
use Rattle.carol_elimination.proofs.Growing.{grow_trans}
use Rattle.carol_elimination.proofs.Combining.{inside_next, among_next, pair_later, combined_more, keep_trans}
use Rattle.carol_elimination.proofs.next.combine_one.Goals as goal

pub combine_two-requires-clause-lower : goal.combine_two-requires-clause-lower
combine_two-requires-clause-lower c =
    let longer = c.loop-lower.invariant.grow.longer in
    let below = inside_next c.args.arena.now c.args.lowers.now c.loop-lower.lower-index c.requires.lowers c.loop-lower-test.true in
    omega (arith, longer, below)

pub combine_two-requires-clause-pair : goal.combine_two-requires-clause-pair
combine_two-requires-clause-pair c =
    let below = inside_next c.args.arena.now c.args.lowers.now c.loop-lower.lower-index c.requires.lowers c.loop-lower-test.true in
    pair_later c.args.x c.args.arena.now c.loop-lower.arena c.args.upper (get_or c.args.lowers.now c.loop-lower.lower-index 0) c.loop-lower.invariant.grow c.requires.upper below (c.requires.pairs (row_in c.args.arena.now (get_or c.args.lowers.now c.loop-lower.lower-index 0)) (among_next c.args.arena.now c.args.lowers.now c.loop-lower.lower-index c.loop-lower-test.true))

pub loop-lower-preserved : goal.loop-lower-preserved
loop-lower-preserved c =
    let below = inside_next c.args.arena.now c.args.lowers.now c.loop-lower.lower-index c.requires.lowers c.loop-lower-test.true in
    record {
      inside = c.in_ok-combine_two.ensures.inside;
      extend = combined_more c.args.x c.args.upper c.args.arena.now c.loop-lower.arena c.args.lowers.now c.loop-lower.lower-index (rows_in c.args.arena.now c.args.stage.now.rows.items) (rows_in c.loop-lower.arena c.loop-lower.stage.rows.items) (rows_in c.combine_two.new.arena c.combine_two.new.stage.rows.items) c.loop-lower-test.true c.loop-lower.invariant.grow c.requires.upper below c.loop-lower.invariant.extend c.in_ok-combine_two.ensures.extend;
      grow = grow_trans c.args.arena.now c.loop-lower.arena c.combine_two.new.arena c.loop-lower.invariant.grow c.in_ok-combine_two.ensures.grow;
      derived = keep_trans c.args.arena.now c.loop-lower.arena c.combine_two.new.arena c.loop-lower.invariant.derived c.in_ok-combine_two.ensures.derived;
    }
