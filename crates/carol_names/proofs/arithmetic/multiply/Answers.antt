use Rattle.std.proofs.Common.{ℤ, rules, sym, subst, ◌∙◌, ap}
use Rattle.std.specs.Prelude.{FitsSigned}
use Rattle.std.specs.Int.{w128}
use Rattle.std.proofs.lemmas.Int.{to_z-of_z}
use Rattle.carol_formula.specs.Bounds.{term_limit}
use Rattle.carol_formula.specs.Linear.{Linear, IsWithin, scaled}
use Rattle.carol_names.specs.Bounded.{IsBounded, most_product}
use Rattle.carol_names.proofs.Bounds.{product-within, product-bounded}
use Rattle.carol_names.proofs.arithmetic.multiply.Goals as goal

pub unreachable-requires : goal.unreachable-requires
unreachable-requires c =
    let fits : FitsSigned w128 c.args.by = search rules in
    c.scale.ensures.too_wide (search rules)
    (subst (λ (k : ℤ). IsWithin term_limit (scaled k c.args.term.now)) (sym (to_z-of_z w128 c.args.by fits)) (product-within c.args.by c.args.term.now c.requires.factor c.requires.term))

pub returns-in-Ok-clause-bounded : goal.returns-in-Ok-clause-bounded
returns-in-Ok-clause-bounded c =
    let fits : FitsSigned w128 c.args.by = search rules in
    subst (λ (t : Linear). IsBounded most_product t)
    (sym (c.in-Ok.ensures.ok.0 ∙ ap (λ (k : ℤ). scaled k c.args.term.now) (to_z-of_z w128 c.args.by fits)))
    (product-bounded c.args.by c.args.term.now c.requires.factor c.requires.term)
