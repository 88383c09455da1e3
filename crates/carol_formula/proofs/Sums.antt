-- The value of lists of products and of terms.
use Rattle.std.proofs.Common.{ℕ, ◌≡◌, List, [], ◌∷◌, ◌++◌, arith, refl, sym, ◌∙◌, ap}
use Rattle.std.specs.Prelude.{if◌then◌else◌, ℤ, pos, negsuc, ◌+ℤ◌, ◌-ℤ◌, ◌*ℤ◌}
use Rattle.std.proofs.lemmas.Int.{ints}
use Rattle.std.proofs.Math.IntN.{+ℤ_idl, +ℤ_assoc, *ℤ-zero, zero-*ℤ}
use Rattle.carol_formula.specs.Linear.{Linear, kept, with_product, normal_of, times, coefficient_of, without, sum_of, scaled, difference_of, replaced}
use Rattle.carol_formula.specs.Value.{sum_at, value_at, set_at}
use Rattle.carol_formula.proofs.Integers.{add-mul, mul-add, mul_assoc, minus_one-mul}
use Rattle.carol_formula.proofs.Orders.{by_order, by_same, by_zero, equal-eq, other-eq}

regrouped : (a b c r s : ℤ) → r ≡ b +ℤ c → s ≡ a +ℤ r → s ≡ (a +ℤ b) +ℤ c
regrouped a b c r s h e = omega (arith, ints)

swapped : (a b c r s : ℤ) → r ≡ a +ℤ c → s ≡ b +ℤ r → s ≡ a +ℤ (b +ℤ c)
swapped a b c r s h e = omega (arith, ints)

pub sum_at-append : (xs ys : List (ℕ × ℤ)) (f : ℕ → ℤ) → sum_at (xs ++ ys) f ≡ sum_at xs f +ℤ sum_at ys f
sum_at-append [] ys f = sym (+ℤ_idl (sum_at ys f))
sum_at-append (x ∷ xs) ys f = regrouped (x.1 *ℤ f x.0) (sum_at xs f) (sum_at ys f) _ _ (sum_at-append xs ys f) refl

pub sum_at-times : (k : ℤ) (xs : List (ℕ × ℤ)) (f : ℕ → ℤ) → sum_at (times k xs) f ≡ k *ℤ sum_at xs f
sum_at-times k [] f = sym (*ℤ-zero k)
sum_at-times k (x ∷ xs) f = ap (λ z. z +ℤ sum_at (times k xs) f) (mul_assoc k x.1 (f x.0)) ∙ ap (λ z. (k *ℤ (x.1 *ℤ f x.0)) +ℤ z) (sum_at-times k xs f) ∙ sym (mul-add k (x.1 *ℤ f x.0) (sum_at xs f))

sum_at-kept : (v : ℕ) (c : ℤ) (ps : List (ℕ × ℤ)) (f : ℕ → ℤ) → sum_at (kept v c ps) f ≡ (c *ℤ f v) +ℤ sum_at ps f
sum_at-kept v c ps f = by_zero c (λ b. sum_at (if b then ps else ((v, c) ∷ ps)) f ≡ (c *ℤ f v) +ℤ sum_at ps f)
    (λ e. sym (ap (λ z. (z *ℤ f v) +ℤ sum_at ps f) e ∙ ap (λ z. z +ℤ sum_at ps f) (zero-*ℤ (f v)) ∙ +ℤ_idl (sum_at ps f)))
    (λ n. refl)

sum_at-with_product : (v : ℕ) (c : ℤ) (ps : List (ℕ × ℤ)) (f : ℕ → ℤ) → sum_at (with_product v c ps) f ≡ (c *ℤ f v) +ℤ sum_at ps f
sum_at-with_product v c [] f = sum_at-kept v c [] f
sum_at-with_product v c (p ∷ ps) f = by_order v p.0 (λ a b. sum_at (if a then kept v c (p ∷ ps) else if b then kept v (c +ℤ p.1) ps else (p ∷ with_product v c ps)) f ≡ (c *ℤ f v) +ℤ ((p.1 *ℤ f p.0) +ℤ sum_at ps f))
    (λ h. sum_at-kept v c (p ∷ ps) f)
    (λ e. sum_at-kept v (c +ℤ p.1) ps f ∙ ap (λ z. z +ℤ sum_at ps f) (add-mul c p.1 (f v)) ∙ +ℤ_assoc (c *ℤ f v) (p.1 *ℤ f v) (sum_at ps f) ∙ ap (λ u. (c *ℤ f v) +ℤ ((p.1 *ℤ f u) +ℤ sum_at ps f)) e)
    (λ h. swapped (c *ℤ f v) (p.1 *ℤ f p.0) (sum_at ps f) _ _ (sum_at-with_product v c ps f) refl)

-- normal form keeps the value
pub sum_at-normal_of : (xs : List (ℕ × ℤ)) (f : ℕ → ℤ) → sum_at (normal_of xs) f ≡ sum_at xs f
sum_at-normal_of [] f = refl
sum_at-normal_of (x ∷ xs) f = sum_at-with_product x.0 x.1 (normal_of xs) f ∙ ap (λ z. (x.1 *ℤ f x.0) +ℤ z) (sum_at-normal_of xs f)

added : (a b c d : ℤ) → (a +ℤ b) +ℤ (c +ℤ d) ≡ (a +ℤ c) +ℤ (b +ℤ d)
added a b c d = omega (arith, ints)

pub value_at-sum_of : (s t : Linear) (f : ℕ → ℤ) → value_at (sum_of s t) f ≡ value_at s f +ℤ value_at t f
value_at-sum_of s t f = ap (λ z. z +ℤ (s.rest +ℤ t.rest)) (sum_at-normal_of (s.pairs ++ t.pairs) f ∙ sum_at-append s.pairs t.pairs f) ∙ added (sum_at s.pairs f) (sum_at t.pairs f) s.rest t.rest

pub value_at-scaled : (k : ℤ) (t : Linear) (f : ℕ → ℤ) → value_at (scaled k t) f ≡ k *ℤ value_at t f
value_at-scaled k t f = ap (λ z. z +ℤ (k *ℤ t.rest)) (sum_at-normal_of (times k t.pairs) f ∙ sum_at-times k t.pairs f) ∙ sym (mul-add k (sum_at t.pairs f) t.rest)

pub value_at-difference_of : (s t : Linear) (f : ℕ → ℤ) → value_at (difference_of s t) f ≡ value_at s f -ℤ value_at t f
value_at-difference_of s t f = value_at-sum_of s (scaled (negsuc 0) t) f ∙ ap (λ z. value_at s f +ℤ z) (value_at-scaled (negsuc 0) t f ∙ minus_one-mul (value_at t f))

-- ---- substitution

-- the products of one variable, and the others
sum_at-split : (v : ℕ) (ps : List (ℕ × ℤ)) (f : ℕ → ℤ) → sum_at ps f ≡ sum_at (without v ps) f +ℤ (coefficient_of v ps *ℤ f v)
sum_at-split v [] f = sym (+ℤ_idl (pos 0 *ℤ f v) ∙ zero-*ℤ (f v))
sum_at-split v (p ∷ ps) f = by_same v p.0 (λ b. (p.1 *ℤ f p.0) +ℤ sum_at ps f ≡ sum_at (if b then without v ps else (p ∷ without v ps)) f +ℤ (((if b then p.1 else pos 0) +ℤ coefficient_of v ps) *ℤ f v))
    (λ e. same (p.1 *ℤ f p.0) (sum_at (without v ps) f) (coefficient_of v ps *ℤ f v) _ _ (sum_at-split v ps f) (add-mul p.1 (coefficient_of v ps) (f v) ∙ ap (λ u. (p.1 *ℤ f u) +ℤ (coefficient_of v ps *ℤ f v)) e))
    (λ n. other (p.1 *ℤ f p.0) (sum_at (without v ps) f) (coefficient_of v ps *ℤ f v) _ _ (sum_at-split v ps f) (ap (λ z. z *ℤ f v) (+ℤ_idl (coefficient_of v ps))))
  where
    same : (x w c r y : ℤ) → r ≡ w +ℤ c → y ≡ x +ℤ c → x +ℤ r ≡ w +ℤ y
    same x w c r y h e = omega (arith, ints)

    other : (x w c r y : ℤ) → r ≡ w +ℤ c → y ≡ c → x +ℤ r ≡ (x +ℤ w) +ℤ y
    other x w c r y h e = omega (arith, ints)

-- without the variable its number doesn't matter
sum_at-without : (v : ℕ) (number : ℤ) (ps : List (ℕ × ℤ)) (f : ℕ → ℤ) → sum_at (without v ps) (set_at v number f) ≡ sum_at (without v ps) f
sum_at-without v number [] f = refl
sum_at-without v number (p ∷ ps) f = by_same v p.0 (λ b. sum_at (if b then without v ps else (p ∷ without v ps)) (set_at v number f) ≡ sum_at (if b then without v ps else (p ∷ without v ps)) f)
    (λ e. sum_at-without v number ps f)
    (λ n. ap (λ b. (p.1 *ℤ (if b then number else f p.0)) +ℤ sum_at (without v ps) (set_at v number f)) (other-eq p.0 v (λ e. n (sym e))) ∙ ap (λ z. (p.1 *ℤ f p.0) +ℤ z) (sum_at-without v number ps f))

-- a term with another in place of a variable is worth what it is with the variable at that one's value
pub value_at-replaced : (v : ℕ) (by t : Linear) (f : ℕ → ℤ) → value_at (replaced v by t) f ≡ value_at t (set_at v (value_at by f) f)
value_at-replaced v by t f = value_at-sum_of (record { pairs = without v t.pairs; rest = t.rest }) (scaled c by) f ∙ ap (λ z. (sum_at (without v t.pairs) f +ℤ t.rest) +ℤ z) (value_at-scaled c by f) ∙ turned (sum_at (without v t.pairs) f) t.rest (c *ℤ value_at by f) _ (sum_at-split v t.pairs g ∙ ap (λ z. z +ℤ (c *ℤ g v)) (sum_at-without v (value_at by f) t.pairs f) ∙ ap (λ z. sum_at (without v t.pairs) f +ℤ (c *ℤ z)) at_v)
  where
    c : ℤ
    c = coefficient_of v t.pairs

    g : ℕ → ℤ
    g = set_at v (value_at by f) f

    at_v : g v ≡ value_at by f
    at_v = ap (λ b. if b then value_at by f else f v) (equal-eq v v refl)

    turned : (w r x s : ℤ) → s ≡ w +ℤ x → (w +ℤ r) +ℤ x ≡ s +ℤ r
    turned w r x s h = omega (arith, ints)
