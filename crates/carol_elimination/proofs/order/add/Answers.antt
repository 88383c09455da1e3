use Rattle.std.proofs.Common.{List, ℕ, sym, ap, ◌∙◌}
use Rattle.std.specs.Prelude.{ℤ}
use Rattle.carol_elimination.specs.Stage.{with_variable, with_pairs}
use Rattle.carol_elimination.proofs.Ordering.{insert_key-is, with_pairs-push}
use Rattle.carol_elimination.proofs.order.add.Goals as goal

pub loop-product-preserved : goal.loop-product-preserved
loop-product-preserved c =
    ap (with_pairs c.in-Some.more.now) (c.in_ok-insert.ensures.keys ∙ insert_key-is c.loop-product.found.keys c.number_of.result ∙ ap (λ (v : ℕ). with_variable v c.loop-product.found.keys) c.number_of.ensures)
    ∙ sym (with_pairs-push c.in-Some.more.now c.in-Some.product.now c.loop-product.found.keys)
    ∙ ap (λ (ps : List (ℕ × ℤ)). with_pairs ps c.loop-product.found.keys) (sym c.in-Some.ensures.cases.0) ∙ c.loop-product.invariant
