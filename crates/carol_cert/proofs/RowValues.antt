-- What a row is worth, where each variable below a number counts.
use Rattle.std.proofs.Common.{ℕ, zero, suc, ◌≡◌, ◌<◌, ◌≤◌, sym, ap, ◌∙◌, arith}
use Rattle.std.specs.Prelude.{ℤ, pos, negsuc, ◌+ℤ◌, ◌*ℤ◌, neg_ℤ, ◌≤ℤ◌, ◌<ℤ◌}
use Rattle.std.proofs.lemmas.Int.{ints}
use Rattle.std.proofs.Math.IntN.{zero-*ℤ}
use Rattle.carol_formula.specs.Linear.{Linear}
use Rattle.carol_formula.specs.Value.{value_at}
use Rattle.carol_formula.proofs.Integers.{add-mul, mul-add, mul_assoc, neg-mul, minus_one-mul}
use Rattle.carol_formula.specs.Division.{floor_of, Divides}
use Rattle.carol_cert.specs.PlainRow.{PlainRow, row_of, negated, multiple, sum_of_rows, quotient, IsAbsurd}
use Rattle.carol_formula.proofs.Division.{mul-floor_of, below_floor_of}
use Rattle.carol_cert.proofs.SumsBelow.{sum_below, sum_below-same, sum_below-zero, sum_below-add, sum_below-mul, top, sum_below-coefficients}

-- the products of a row
abbrev pub products_at : ℕ → PlainRow → (ℕ → ℤ) → ℤ
products_at n r f = sum_below n (λ v. r.coefficient v *ℤ f v)

abbrev pub row_value : ℕ → PlainRow → (ℕ → ℤ) → ℤ
row_value n r f = products_at n r f +ℤ r.rest

-- the row is true
pub record Holds (n : ℕ) (f : ℕ → ℤ) (r : PlainRow) : Type 0 where
  pub holds : row_value n r f ≤ℤ pos 0

pub row_value-row_of : (n : ℕ) (t : Linear) (f : ℕ → ℤ) → top t.pairs ≤ n → row_value n (row_of t) f ≡ value_at t f
row_value-row_of n t f h = ap (λ z. z +ℤ t.rest) (sum_below-coefficients n t.pairs f h)

products_at-multiple : (n : ℕ) (m : ℤ) (r : PlainRow) (f : ℕ → ℤ) → products_at n (multiple m r) f ≡ m *ℤ products_at n r f
products_at-multiple n m r f =
    sum_below-same n _ _ (λ v _. mul_assoc m (r.coefficient v) (f v)) ∙ sum_below-mul n m (λ v. r.coefficient v *ℤ f v)

row_value-multiple : (n : ℕ) (m : ℤ) (r : PlainRow) (f : ℕ → ℤ) → row_value n (multiple m r) f ≡ m *ℤ row_value n r f
row_value-multiple n m r f = ap (λ z. z +ℤ (m *ℤ r.rest)) (products_at-multiple n m r f) ∙ sym (mul-add m (products_at n r f) r.rest)

products_at-sum : (n : ℕ) (r s : PlainRow) (f : ℕ → ℤ) → products_at n (sum_of_rows r s) f ≡ products_at n r f +ℤ products_at n s f
products_at-sum n r s f =
    sum_below-same n _ _ (λ v _. add-mul (r.coefficient v) (s.coefficient v) (f v))
    ∙ sum_below-add n (λ v. r.coefficient v *ℤ f v) (λ v. s.coefficient v *ℤ f v)

row_value-sum : (n : ℕ) (r s : PlainRow) (f : ℕ → ℤ) → row_value n (sum_of_rows r s) f ≡ row_value n r f +ℤ row_value n s f
row_value-sum n r s f = omega (arith, ints, products_at-sum n r s f)

products_at-negated : (n : ℕ) (r : PlainRow) (f : ℕ → ℤ) → products_at n (negated r) f ≡ neg_ℤ (products_at n r f)
products_at-negated n r f =
    sum_below-same n _ _ (λ v _. neg-mul (r.coefficient v) (f v) ∙ sym (minus_one-mul (r.coefficient v *ℤ f v)))
    ∙ sum_below-mul n (negsuc 0) (λ v. r.coefficient v *ℤ f v)
    ∙ minus_one-mul (products_at n r f)

pub row_value-negated : (n : ℕ) (r : PlainRow) (f : ℕ → ℤ) → row_value n (negated r) f ≡ neg_ℤ (row_value n r f)
row_value-negated n r f = omega (arith, ints, products_at-negated n r f)

mul_at_most_zero : (m z : ℤ) → pos 0 ≤ℤ m → z ≤ℤ pos 0 → (m *ℤ z) ≤ℤ pos 0
mul_at_most_zero (pos a) (pos zero) h k = omega (arith, ints)
mul_at_most_zero (pos a) (pos (suc n)) h k = absurd (omega (arith, ints))
mul_at_most_zero (pos a) (negsuc n) h k = omega (arith, ints)
mul_at_most_zero (negsuc a) z h k = absurd (omega (arith, ints))

-- what combines two true rows is true
pub holds-combined : (n : ℕ) (f : ℕ → ℤ) (m k : ℤ) (r s : PlainRow) → pos 0 ≤ℤ m → pos 0 ≤ℤ k → Holds n f r → Holds n f s → Holds n f (sum_of_rows (multiple m r) (multiple k s))
holds-combined n f m k r s hm hk hr hs =
    let sum = row_value-sum n (multiple m r) (multiple k s) f in
    let first = row_value-multiple n m r f in
    let second = row_value-multiple n k s f in
    let low : (m *ℤ row_value n r f) ≤ℤ pos 0 = mul_at_most_zero m (row_value n r f) hm hr.holds in
    let less : (k *ℤ row_value n s f) ≤ℤ pos 0 = mul_at_most_zero k (row_value n s f) hk hs.holds in
    record { holds = omega (arith, ints, sum, first, second, low, less) }

products_at-quotient : (n d : ℕ) (r : PlainRow) (f : ℕ → ℤ) → 0 < d → ((v : ℕ) → Divides d (r.coefficient v)) → pos d *ℤ products_at n (quotient d r) f ≡ products_at n r f
products_at-quotient n d r f positive divides =
    sym (sum_below-mul n (pos d) (λ v. floor_of (r.coefficient v) d *ℤ f v))
    ∙ sum_below-same n _ _ (λ v _. sym (mul_assoc (pos d) (floor_of (r.coefficient v) d) (f v)) ∙ ap (λ z. z *ℤ f v) (mul-floor_of d (r.coefficient v) positive (divides v)))

-- a true row that is divided is true of whole numbers
pub holds-quotient : (n d : ℕ) (f : ℕ → ℤ) (r : PlainRow) → 0 < d → ((v : ℕ) → Divides d (r.coefficient v)) → Holds n f r → Holds n f (quotient d r)
holds-quotient n d f r positive divides h =
    let whole = products_at-quotient n d r f positive divides in
    let true_row : row_value n r f ≤ℤ pos 0 = h.holds in
    let below : (pos d *ℤ products_at n (quotient d r) f) ≤ℤ neg_ℤ r.rest = omega (arith, ints, whole, true_row) in
    let fits : products_at n (quotient d r) f ≤ℤ floor_of (neg_ℤ r.rest) d = below_floor_of d (products_at n (quotient d r) f) (neg_ℤ r.rest) positive below in
    record { holds = omega (arith, ints, fits) }

-- an absurd row is never true
pub absurd_fails : (n : ℕ) (f : ℕ → ℤ) (r : PlainRow) → IsAbsurd r → Holds n f r → ⊥
absurd_fails n f r a h =
    let none : products_at n r f ≡ pos 0 = sum_below-zero n (λ v. r.coefficient v *ℤ f v) (λ v _. ap (λ z. z *ℤ f v) (a.no_variable v) ∙ zero-*ℤ (f v)) in
    let true_row : row_value n r f ≤ℤ pos 0 = h.holds in
    let more : pos 0 <ℤ r.rest = a.positive in
    omega (arith, ints, none, true_row, more)
