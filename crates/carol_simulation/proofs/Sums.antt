-- Sums of f over the numbers below n.
use Rattle.std.proofs.Common.{◌≡◌, ℕ, zero, suc, ◌+◌, ◌*◌, ◌<◌, ◌≤◌, List, [], ◌∷◌, length, refl, sym, ap, ◌∙◌, inl, inr, arith}
use Rattle.std.specs.Prelude.{slice_get}
use Rattle.std.specs.List.{sum_by}
use Rattle.std.specs.Option.{option_map_or}
use Rattle.std.proofs.Math.Nat.{suc-mul}
use Rattle.std.proofs.lemmas.Bool.{cases_eq, cases_lt}
use Rattle.std.proofs.lemmas.List.Sums.{sum_by-cons}

abbrev pub below : ℕ → (ℕ → ℕ) → ℕ
below zero f = 0
below (suc n) f = below n f + f n

pub below_mono : (f g : ℕ → ℕ) (n : ℕ) → ((i : ℕ) → i < n → f i ≤ g i) → below n f ≤ below n g
below_mono f g zero h = omega arith
below_mono f g (suc n) h = omega (arith, below_mono f g n (λ i low. h i (omega arith)), h n (omega arith))

-- one more at one place
pub below_gain : (f g : ℕ → ℕ) (k w n : ℕ) → ((i : ℕ) → i < n → f i ≤ g i) → k < n → f k + w ≤ g k → below n f + w ≤ below n g
below_gain f g k w zero h low gain = absurd (omega arith)
below_gain f g k w (suc n) h low gain = elim (cases_eq k n) [
  | inl e ↦
      let here : f n + w ≤ g n = rw e at gain
      in omega (arith, below_mono f g n (λ i under. h i (omega arith)))
  | inr apart ↦ omega (arith, below_gain f g k w n (λ i under. h i (omega arith)) (omega arith) gain, h n (omega arith))
]

pub below_most : (f : ℕ → ℕ) (c n : ℕ) → ((i : ℕ) → i < n → f i ≤ c) → below n f ≤ n * c
below_most f c zero h = omega arith
below_most f c (suc n) h = omega (arith, suc-mul n c, below_most f c n (λ i low. h i (omega arith)), h n (omega arith))

pub below_more : (f : ℕ → ℕ) (m n : ℕ) → m ≤ n → below m f ≤ below n f
below_more f m zero h = let e : m ≡ 0 = omega arith in rw e (omega arith)
below_more f m (suc n) h = elim (cases_lt n m) [
  | inl all ↦ let e : m ≡ suc n = omega arith in rw e (omega arith)
  | inr less ↦ omega (arith, below_more f m n less)
]

-- from m on nothing is added
pub below_cap : (f : ℕ → ℕ) (m n : ℕ) → ((i : ℕ) → m ≤ i → f i ≡ 0) → below n f ≤ below m f
below_cap f m zero h = omega arith
below_cap f m (suc n) h = elim (cases_lt n m) [
  | inl low ↦ below_more f (suc n) m low
  | inr past ↦ omega (arith, below_cap f m n h, h n past)
]

below_front : (f : ℕ → ℕ) (n : ℕ) → below (suc n) f ≡ f 0 + below n (λ i. f (suc i))
below_front f zero = omega arith
below_front f (suc n) = omega (arith, below_front f n)

-- the sum over a list
pub sum_below : {X : Type 0} (f : X → ℕ) (xs : List X) → sum_by f xs ≡ below (length xs) (λ i. option_map_or f (slice_get xs i) 0)
sum_below f [] = refl
sum_below f (x ∷ xs) = sum_by-cons f x xs ∙ ap (λ n. f x + n) (sum_below f xs) ∙ sym (below_front (λ i. option_map_or f (slice_get (x ∷ xs) i) 0) (length xs))
