use Rattle.std.proofs.Common.{◌≡◌, ◌∙◌, subst, sym, arith, rules}
use Rattle.std.proofs.lemmas.Int.{to_z-of_z, ints, fits_signed_from_abs}
use Rattle.std.specs.Prelude.{FitsSigned, ℤ, ◌↔◌, pos, ◌+ℤ◌, ◌-ℤ◌, ◌*ℤ◌, ◌≤ℤ◌}
use Rattle.std.specs.Int.{w128, int_div_euclid}
use Rattle.carol_elimination.proofs.Dividing.{upper_exact}
use Rattle.carol_elimination.proofs.reading.upper_bound.Goals as goal

pub returns-clause-exact : goal.returns-clause-exact
returns-clause-exact c =
    let rest : FitsSigned w128 c.args.rest = c.ranges.rest in
    let coefficient : FitsSigned w128 c.args.coefficient = c.ranges.coefficient in
    let turned : FitsSigned w128 (pos 0 -ℤ c.args.rest) = fits_signed_from_abs w128 (pos 0 -ℤ c.args.rest) (omega (arith, ints, c.requires.small)) in
    let quotient : c.div_euclid.result ≡ int_div_euclid (pos 0 -ℤ c.args.rest) c.args.coefficient = simp to_z-of_z at c.div_euclid.ensures in
    let fits : FitsSigned w128 c.div_euclid.result = search rules in
    λ z. subst (λ (q : ℤ). ((c.args.rest +ℤ (c.args.coefficient *ℤ z)) ≤ℤ pos 0) ↔ (z ≤ℤ q)) (sym (to_z-of_z w128 c.div_euclid.result fits ∙ quotient)) (upper_exact c.args.coefficient c.args.rest z c.requires.positive)
