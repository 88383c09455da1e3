-- Sums over all variables below a number.
use Rattle.std.proofs.Common.{ℕ, zero, suc, ◌≡◌, ◌+◌, ◌<◌, ◌≤◌, List, [], ◌∷◌, max, inl, inr, refl, sym, ap, ◌∙◌, arith}
use Rattle.std.specs.Prelude.{ℤ, pos, ◌+ℤ◌, ◌*ℤ◌, ◌==◌, if◌then◌else◌}
use Rattle.std.proofs.lemmas.Int.{ints}
use Rattle.std.proofs.lemmas.Bool.{cases_lt, eq-eqb, ne_eqb}
use Rattle.std.proofs.Math.IntN.{zero-*ℤ, *ℤ-zero}
use Rattle.carol_formula.specs.Linear.{coefficient_of}
use Rattle.carol_formula.specs.Value.{sum_at}
use Rattle.carol_formula.proofs.Integers.{add-mul, mul-add}

abbrev pub sum_below : ℕ → (ℕ → ℤ) → ℤ
sum_below zero g = pos 0
sum_below (suc n) g = g n +ℤ sum_below n g

pub sum_below-same : (n : ℕ) (g h : ℕ → ℤ) → ((v : ℕ) → v < n → g v ≡ h v) → sum_below n g ≡ sum_below n h
sum_below-same zero g h e = refl
sum_below-same (suc n) g h e =
    let first : g n ≡ h n = e n (omega arith) in
    let rest : sum_below n g ≡ sum_below n h = sum_below-same n g h (λ v lt. e v (omega arith)) in
    omega (arith, ints, first, rest)

pub sum_below-zero : (n : ℕ) (g : ℕ → ℤ) → ((v : ℕ) → v < n → g v ≡ pos 0) → sum_below n g ≡ pos 0
sum_below-zero zero g e = refl
sum_below-zero (suc n) g e =
    let first : g n ≡ pos 0 = e n (omega arith) in
    let rest : sum_below n g ≡ pos 0 = sum_below-zero n g (λ v lt. e v (omega arith)) in
    omega (arith, ints, first, rest)

pub sum_below-add : (n : ℕ) (g h : ℕ → ℤ) → sum_below n (λ v. g v +ℤ h v) ≡ sum_below n g +ℤ sum_below n h
sum_below-add zero g h = refl
sum_below-add (suc n) g h =
    let rest = sum_below-add n g h in
    omega (arith, ints, rest)

pub sum_below-mul : (n : ℕ) (m : ℤ) (g : ℕ → ℤ) → sum_below n (λ v. m *ℤ g v) ≡ m *ℤ sum_below n g
sum_below-mul zero m g = sym (*ℤ-zero m)
sum_below-mul (suc n) m g = ap (λ z. (m *ℤ g n) +ℤ z) (sum_below-mul n m g) ∙ sym (mul-add m (g n) (sum_below n g))

-- what one product of a term adds at a variable
share_there : (x v : ℕ) (c : ℤ) (f : ℕ → ℤ) → v ≡ x → (if v == x then c else pos 0) *ℤ f v ≡ c *ℤ f x
share_there x v c f e = ap (λ b. (if b then c else pos 0) *ℤ f v) (eq-eqb v x e) ∙ ap (λ w. c *ℤ f w) e

share_elsewhere : (x v : ℕ) (c : ℤ) (f : ℕ → ℤ) → (v ≡ x → ⊥) → (if v == x then c else pos 0) *ℤ f v ≡ pos 0
share_elsewhere x v c f ne = ap (λ b. (if b then c else pos 0) *ℤ f v) (ne_eqb v x ne) ∙ zero-*ℤ (f v)

sum_below-share : (n x : ℕ) (c : ℤ) (f : ℕ → ℤ) → x < n → sum_below n (λ v. (if v == x then c else pos 0) *ℤ f v) ≡ c *ℤ f x
sum_below-share zero x c f h = absurd (omega arith)
sum_below-share (suc n) x c f h = elim (cases_lt x n) [
  | inl lt ↦ (
      let first = share_elsewhere x n c f (λ same. omega arith) in
      let rest = sum_below-share n x c f lt in
      omega (arith, ints, first, rest))
  | inr le ↦ (
      let first = share_there x n c f (omega arith) in
      let rest = sum_below-zero n (λ v. (if v == x then c else pos 0) *ℤ f v) (λ v lt. share_elsewhere x v c f (λ same. omega arith)) in
      omega (arith, ints, first, rest))
]

-- above each variable of the products
abbrev pub top : List (ℕ × ℤ) → ℕ
top [] = 0
top (p ∷ ps) = max (p.0 + 1) (top ps)

-- a term's products, added variable by variable
pub sum_below-coefficients : (n : ℕ) (ps : List (ℕ × ℤ)) (f : ℕ → ℤ) → top ps ≤ n → sum_below n (λ v. coefficient_of v ps *ℤ f v) ≡ sum_at ps f
sum_below-coefficients n [] f h = sum_below-zero n (λ v. pos 0 *ℤ f v) (λ v _. zero-*ℤ (f v))
sum_below-coefficients n (p ∷ ps) f h =
    sum_below-same n _ _ (λ v _. add-mul (if v == p.0 then p.1 else pos 0) (coefficient_of v ps) (f v))
    ∙ sum_below-add n (λ v. (if v == p.0 then p.1 else pos 0) *ℤ f v) (λ v. coefficient_of v ps *ℤ f v)
    ∙ ap (λ z. z +ℤ sum_below n (λ v. coefficient_of v ps *ℤ f v)) (sum_below-share n p.0 p.1 f (omega arith))
    ∙ ap (λ z. (p.1 *ℤ f p.0) +ℤ z) (sum_below-coefficients n ps f (omega arith))
