use Rattle.std.proofs.Common.{◌≡◌, ◌<◌, ◌∙◌, length, sym, ap, subst, arith}
use Rattle.std.proofs.lemmas.List.{length-map}
use Rattle.carol_formula.specs.Bounds.{term_limit, value_limit}
use Rattle.carol_formula.specs.Linear.{Linear}
use Rattle.carol_formula.specs.Numbers.{number_at}
use Rattle.carol_formula.specs.Value.{FitsWithin}
use Rattle.carol_formula.specs.declared.term.Row.{Row}
use Rattle.carol_formula.proofs.Weights.{FitsWithin-wider}
use Rattle.carol_elimination.specs.Derived.{row_at}
use Rattle.carol_elimination.specs.Entries.{terms_of}
use Rattle.carol_elimination.proofs.Eliminating.{given_row}
use Rattle.carol_elimination.proofs.Reaching.{fit_more, some_fits}
use Rattle.carol_elimination.proofs.choice.first_far.Goals as goal

pub loop-at-preserved : goal.loop-at-preserved
loop-at-preserved c =
    let row : c.index-given-at.result.0 ≡ row_at (terms_of c.args.given.now) c.loop-at.at = sym (given_row c.args.given.now c.loop-at.at c.index-given-at.result c.loop-at-test.true c.index-given-at.is) in
    let few : c.loop-at.at < length (terms_of c.args.given.now) = omega (arith, c.loop-at-test.true, length-map c.args.given.now (λ (r : Row). r.0)) in
    let fits = some_fits c.value_within.result _ _ c.value_within.ensures c.if-is_none.ensures in
    let at_place = subst (λ (r : Linear). FitsWithin term_limit r (number_at c.args.values.now)) (ap (λ (r : Row). r.0) (sym c.index-given-at.is) ∙ row) fits in
    fit_more (terms_of c.args.given.now) (number_at c.args.values.now) c.loop-at.at few c.loop-at.invariant (FitsWithin-wider term_limit value_limit (row_at (terms_of c.args.given.now) c.loop-at.at) (number_at c.args.values.now) (omega arith) at_place)
