use Rattle.std.proofs.Common.{[], ◌∷◌, ◌++◌, ◌∙◌, sym, ap, subst, take, List}
use Rattle.carol_formula.specs.Linear.{Linear}
use Rattle.carol_formula.specs.Numbers.{number_at}
use Rattle.carol_elimination.specs.Entries.{rows_in}
use Rattle.carol_elimination.proofs.Combining.{inside_next, rows_in_more}
use Rattle.carol_elimination.specs.Limits.{AreBounds}
use Rattle.carol_elimination.proofs.reading.bounds_of.Goals as goal

pub row-requires : goal.row-requires
row-requires c = inside_next c.args.arena.now c.args.rows.now c.loop-at.at-index c.requires.inside c.loop-at-test.true

pub loop-at-preserved : goal.loop-at-preserved
loop-at-preserved c =
    let before = rows_in c.args.arena.now (take c.loop-at.at-index c.args.rows.now) in
    subst (λ (rows : List Linear). AreBounds c.args.x rows (number_at c.args.values.now) c.in-Some.more)
    (ap (λ (r : Linear). before ++ r ∷ []) c.row.ensures ∙ sym (rows_in_more c.args.arena.now c.args.rows.now c.loop-at.at-index c.loop-at-test.true))
    (c.in-Some.ensures.some before c.loop-at.invariant)
