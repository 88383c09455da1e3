-- A light product and a light sum are within a limit.
use Rattle.std.proofs.Common.{ℕ, ◌+◌, ◌*◌, ◌<◌, ◌≡◌, arith, sym, ◌∙◌, ap, subst}
use Rattle.std.specs.Prelude.{ℤ, unsigned_abs}
use Rattle.carol_formula.specs.Linear.{Linear, IsWithin, sum_of, scaled}
use Rattle.carol_formula.specs.Weight.{weight}
use Rattle.carol_formula.proofs.Weights.{weight-sum_of, weight-scaled, IsWithin-weight}

-- the number stands twice, as it is and as its bits give it back
pub IsWithin-scaled : (limit : ℕ) (k k' : ℤ) (t : Linear) → k' ≡ k → unsigned_abs k * weight t < limit → IsWithin limit (scaled k' t)
IsWithin-scaled limit k k' t e h = subst (λ j. IsWithin limit (scaled j t)) (sym e) (IsWithin-weight limit (scaled k t) (omega (arith, weight-scaled k t)))

pub IsWithin-sum_of : (limit : ℕ) (s t : Linear) → weight s + weight t < limit → IsWithin limit (sum_of s t)
IsWithin-sum_of limit s t h = IsWithin-weight limit (sum_of s t) (omega (arith, weight-sum_of s t))

-- a sum and a product are light where their weights are
pub light_sum : (limit : ℕ) (s t u : Linear) (k k' : ℤ) → u ≡ scaled k' t → k' ≡ k → weight s + (unsigned_abs k * weight t) < limit → weight s + weight u < limit
light_sum limit s t u k k' e f h = subst (λ v. weight s + weight v < limit) (sym (e ∙ ap (λ (j : ℤ). scaled j t) f)) (omega (arith, weight-scaled k t))
