use Rattle.std.proofs.Common.{List, ℕ, sym, ap, ◌∙◌}
use Rattle.std.specs.Prelude.{ℤ}
use Rattle.carol_formula.specs.declared.term.Row.{Row}
use Rattle.carol_elimination.specs.Stage.{with_pairs}
use Rattle.carol_elimination.specs.Entries.{terms_of}
use Rattle.carol_elimination.proofs.Ordering.{with_rows, with_terms-push, variables-with_rows}
use Rattle.carol_elimination.proofs.order.variables_of.Goals as goal

pub loop-row-init : goal.loop-row-init
loop-row-init c = ap (with_rows (terms_of c.args.rows.now)) c.new-found.ensures.empty ∙ variables-with_rows (terms_of c.args.rows.now)

pub loop-row-preserved : goal.loop-row-preserved
loop-row-preserved c =
    ap (with_rows (terms_of c.in-Some.more.now)) (c.in_ok-add.ensures ∙ ap (λ (ps : List (ℕ × ℤ)). with_pairs ps c.loop-row.found.keys) c.pairs.ensures.value)
    ∙ sym (with_terms-push c.in-Some.more.now c.in-Some.row.now c.loop-row.found.keys)
    ∙ ap (λ (rs : List Row). with_rows (terms_of rs) c.loop-row.found.keys) (sym c.in-Some.ensures.cases.0) ∙ c.loop-row.invariant
