-- What a term and a formula are worth after a renaming, and how heavy they are.
use Rattle.std.proofs.Common.{ℕ, ◌+◌, ◌*◌, ◌≤◌, ◌≡◌, List, [], ◌∷◌, length, arith, refl, sym, ◌∙◌, ap, subst}
use Rattle.std.specs.Prelude.{not, ◌&&◌, ◌||◌, ℤ, pos, ◌+ℤ◌, ◌*ℤ◌, unsigned_abs}
use Rattle.std.proofs.lemmas.Int.{ints}
use Rattle.carol_formula.specs.Claim.{Claim, True, False, Le, Eq, Ne, And, Or, Not, EachTerm, is_at_most_zero, truth}
use Rattle.carol_formula.specs.Linear.{Linear, constant_of, is_zero, sum_of, scaled}
use Rattle.carol_formula.specs.Value.{sum_at, value_at}
use Rattle.carol_formula.proofs.Sums.{value_at-sum_of, value_at-scaled}
use Rattle.carol_formula.specs.Named.{AllNamed, named_sum, named_term, named_claim, named_mass, named_weight, through}
use Rattle.carol_formula.specs.Weight.{weight}
use Rattle.carol_formula.proofs.Weights.{weight-sum_of, weight-scaled}

value_at-named_sum : (name : ℕ → Linear) (ps : List (ℕ × ℤ)) (sum : Linear) (f : ℕ → ℤ) → value_at (named_sum name ps sum) f ≡ value_at sum f +ℤ sum_at ps (through name f)
value_at-named_sum name [] sum f = omega (arith, ints)
value_at-named_sum name (p ∷ ps) sum f = regrouped (value_at sum f) (p.1 *ℤ value_at (name p.0) f) (sum_at ps (through name f)) _ _ (value_at-sum_of sum (scaled p.1 (name p.0)) f ∙ ap (λ z. value_at sum f +ℤ z) (value_at-scaled p.1 (name p.0) f)) (value_at-named_sum name ps (sum_of sum (scaled p.1 (name p.0))) f)
  where
    regrouped : (s x r n m : ℤ) → n ≡ s +ℤ x → m ≡ n +ℤ r → m ≡ s +ℤ (x +ℤ r)
    regrouped s x r n m g h = omega (arith, ints)

-- a renamed term is worth what the term is where each variable has its own term's value
pub value_at-named_term : (name : ℕ → Linear) (t : Linear) (f : ℕ → ℤ) → value_at (named_term name t) f ≡ value_at t (through name f)
value_at-named_term name t f = turned (value_at (constant_of t.rest) f) (sum_at t.pairs (through name f)) t.rest _ (value_at-named_sum name t.pairs (constant_of t.rest) f) (constant t.rest)
  where
    constant : (r : ℤ) → pos 0 +ℤ r ≡ r
    constant r = omega (arith, ints)

    turned : (c s r m : ℤ) → m ≡ c +ℤ s → c ≡ r → m ≡ s +ℤ r
    turned c s r m g h = omega (arith, ints)

-- a renamed formula is true where the formula is at the values of its variables' terms
pub truth-named_claim : (name : ℕ → Linear) (c : Claim) (f : ℕ → ℤ) → truth (named_claim name c) f ≡ truth c (through name f)
truth-named_claim name True f = refl
truth-named_claim name False f = refl
truth-named_claim name (Le t) f = ap is_at_most_zero (value_at-named_term name t f)
truth-named_claim name (Eq t) f = ap is_zero (value_at-named_term name t f)
truth-named_claim name (Ne t) f = ap (λ z. not (is_zero z)) (value_at-named_term name t f)
truth-named_claim name (And a b) f = ap (λ x. x && truth (named_claim name b) f) (truth-named_claim name a f) ∙ ap (λ y. truth a (through name f) && y) (truth-named_claim name b f)
truth-named_claim name (Or a b) f = ap (λ x. x || truth (named_claim name b) f) (truth-named_claim name a f) ∙ ap (λ y. truth a (through name f) || y) (truth-named_claim name b f)
truth-named_claim name (Not a) f = ap not (truth-named_claim name a f)

-- ---- weight

-- a sum and one product more
pub weight-step : (sum by : Linear) (k : ℤ) → weight (sum_of sum (scaled k by)) ≤ weight sum + (unsigned_abs k * weight by)
weight-step sum by k = omega (arith, weight-sum_of sum (scaled k by), weight-scaled k by)

weight-named_sum : (name : ℕ → Linear) (ps : List (ℕ × ℤ)) (sum : Linear) → weight (named_sum name ps sum) ≤ weight sum + named_mass name ps
weight-named_sum name [] sum = omega arith
weight-named_sum name (p ∷ ps) sum = omega (arith, weight-named_sum name ps (sum_of sum (scaled p.1 (name p.0))), weight-step sum (name p.0) p.1)

pub weight-named_term : (name : ℕ → Linear) (t : Linear) → weight (named_term name t) ≤ named_weight name t
weight-named_term name t = omega (arith, weight-named_sum name t.pairs (constant_of t.rest))

-- ---- a term that is being renamed

-- the sum so far, and the products that are left
pub record Renamed (can : ℕ → Type 0) (name : ℕ → Linear) (t : Linear) (sum : Linear) (left : List (ℕ × ℤ)) : Type 0 where
  pub sum_is : named_sum name left sum ≡ named_term name t
  pub named : AllNamed can left
  pub light : weight sum + named_mass name left ≤ named_weight name t

-- one product more; its coefficient stands twice, as it is and as its bits give it back
pub renamed_step : {can : ℕ → Type 0} {name : ℕ → Linear} {t sum : Linear} {left : List (ℕ × ℤ)} (sum' : Linear) (p : ℕ × ℤ) (k : ℤ) (more : List (ℕ × ℤ)) → Renamed can name t sum left → left ≡ p ∷ more → k ≡ p.1 → sum' ≡ sum_of sum (scaled k (name p.0)) → Renamed can name t sum' more
renamed_step {can = can} {name = name} {t = t} {sum = sum} sum' p k more r e f g = subst (λ s. Renamed can name t s more) (sym (g ∙ ap (λ (j : ℤ). sum_of sum (scaled j (name p.0))) f)) (stepped (subst (Renamed can name t sum) e r))
  where
    stepped : Renamed can name t sum (p ∷ more) → Renamed can name t (sum_of sum (scaled p.1 (name p.0))) more
    stepped s = record {
      sum_is = s.sum_is;
      named = s.named.1;
      light = omega (arith, s.light, weight-step sum (name p.0) p.1);
    }

-- what the sum is when no product is left
pub renamed_end : {can : ℕ → Type 0} {name : ℕ → Linear} {t sum : Linear} (left : List (ℕ × ℤ)) → Renamed can name t sum left → length left ≡ 0 → sum ≡ named_term name t
renamed_end [] r e = r.sum_is
renamed_end (p ∷ ps) r e = absurd (omega arith)

-- no term of a renamed formula weighs more than what its variables' terms can add up to
pub weight-named_claim : (name : ℕ → Linear) (most : ℕ) (c : Claim) → EachTerm (λ t. named_weight name t ≤ most) c → EachTerm (λ t. weight t ≤ most) (named_claim name c)
weight-named_claim name most True h = tt
weight-named_claim name most False h = tt
weight-named_claim name most (Le t) h = omega (arith, weight-named_term name t)
weight-named_claim name most (Eq t) h = omega (arith, weight-named_term name t)
weight-named_claim name most (Ne t) h = omega (arith, weight-named_term name t)
weight-named_claim name most (And a b) h = (weight-named_claim name most a h.0, weight-named_claim name most b h.1)
weight-named_claim name most (Or a b) h = (weight-named_claim name most a h.0, weight-named_claim name most b h.1)
weight-named_claim name most (Not a) h = weight-named_claim name most a h
