use Rattle.std.proofs.Common.{List, get_or, subst, sym, arith}
use Rattle.carol_formula.specs.Linear.{Linear}
use Rattle.carol_elimination.specs.Derived.{IsPair}
use Rattle.carol_elimination.specs.Stage.{Among}
use Rattle.carol_elimination.specs.Entries.{row_in, rows_in}
use Rattle.carol_elimination.proofs.Growing.{grow_trans, inside_grow, rows_in_grow}
use Rattle.carol_elimination.proofs.Combining.{inside_next, among_next, combined_all_more, keep_trans}
use Rattle.carol_elimination.proofs.next.combine_all.Goals as goal

pub combine_one-requires-clause-upper : goal.combine_one-requires-clause-upper
combine_one-requires-clause-upper c =
    let longer = c.loop-upper.invariant.grow.longer in
    let below = inside_next c.args.arena.now c.args.uppers.now c.loop-upper.upper-index c.requires.uppers c.loop-upper-test.true in
    omega (arith, longer, below)

pub combine_one-requires-clause-lowers : goal.combine_one-requires-clause-lowers
combine_one-requires-clause-lowers c = inside_grow c.args.arena.now c.loop-upper.arena c.args.lowers.now c.loop-upper.invariant.grow c.requires.lowers

pub combine_one-requires-clause-pairs : goal.combine_one-requires-clause-pairs
combine_one-requires-clause-pairs c = λ l among.
    let below = inside_next c.args.arena.now c.args.uppers.now c.loop-upper.upper-index c.requires.uppers c.loop-upper-test.true in
    subst (λ (u : Linear). IsPair c.args.x u l) (sym (c.loop-upper.invariant.grow.same (get_or c.args.uppers.now c.loop-upper.upper-index 0) below))
    (c.requires.pairs (row_in c.args.arena.now (get_or c.args.uppers.now c.loop-upper.upper-index 0)) (among_next c.args.arena.now c.args.uppers.now c.loop-upper.upper-index c.loop-upper-test.true) l
    (subst (λ (rs : List Linear). Among l rs) (rows_in_grow c.args.arena.now c.loop-upper.arena c.args.lowers.now c.loop-upper.invariant.grow c.requires.lowers) among))

pub loop-upper-preserved : goal.loop-upper-preserved
loop-upper-preserved c =
    let below = inside_next c.args.arena.now c.args.uppers.now c.loop-upper.upper-index c.requires.uppers c.loop-upper-test.true in
    record {
      inside = c.in_ok-combine_one.ensures.inside;
      extend = combined_all_more c.args.x c.args.arena.now c.loop-upper.arena c.args.uppers.now c.args.lowers.now c.loop-upper.upper-index (rows_in c.args.arena.now c.args.stage.now.rows.items) (rows_in c.loop-upper.arena c.loop-upper.stage.rows.items) (rows_in c.combine_one.new.arena c.combine_one.new.stage.rows.items) c.loop-upper-test.true c.loop-upper.invariant.grow below c.requires.lowers c.loop-upper.invariant.extend c.in_ok-combine_one.ensures.extend;
      grow = grow_trans c.args.arena.now c.loop-upper.arena c.combine_one.new.arena c.loop-upper.invariant.grow c.in_ok-combine_one.ensures.grow;
      derived = keep_trans c.args.arena.now c.loop-upper.arena c.combine_one.new.arena c.loop-upper.invariant.derived c.in_ok-combine_one.ensures.derived;
    }
