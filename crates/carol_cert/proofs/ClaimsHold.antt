-- Claims that are true at a valuation, and what a refutation makes of them.
use Rattle.std.proofs.Common.{ℕ, zero, suc, ◌≡◌, Bool, true, false, List, [], ◌∷◌, ◌++◌, ◌⊎◌, inl, inr, refl, ◌∙◌, subst, arith}
use Rattle.std.specs.Prelude.{Some, slice_get, slice_set, All, IsTrue, ℤ, pos, negsuc, ◌+ℤ◌, ◌-ℤ◌, ◌*ℤ◌, neg_ℤ, ◌≤ℤ◌, ◌&&◌, ◌||◌, not}
use Rattle.std.proofs.lemmas.Bool.{false≢true}
use Rattle.std.proofs.lemmas.Int.{ints, by_lt_z}
use Rattle.std.proofs.lemmas.List.Elements.{All-set, All-append}
use Rattle.std.proofs.lemmas.Option.{get_or_from_slice_get, slice_get_within}
use Rattle.carol_formula.specs.Linear.{Linear, times, is_zero}
use Rattle.carol_formula.specs.Value.{sum_at, value_at}
use Rattle.carol_formula.specs.Claim.{Claim, Ne, And, Or, truth}
use Rattle.carol_formula.proofs.Claims.{is_at_most_zero_from}
use Rattle.carol_formula.proofs.Integers.{one-mul, minus_one-mul, mul_assoc}
use Rattle.carol_cert.specs.Cases.{below_zero, above_zero, at_most_number, at_least_number}

-- the claim is true
abbrev pub IsTrueAt : (ℕ → ℤ) → Claim → Type 0
IsTrueAt f claim = IsTrue (truth claim f)

abbrev pub AreTrueAt : (ℕ → ℤ) → List Claim → Type 0
AreTrueAt f claims = All (IsTrueAt f) claims

-- ---- lists of claims

pub true_at : (f : ℕ → ℤ) (claims : List Claim) (at : ℕ) (claim : Claim) → AreTrueAt f claims → slice_get claims at ≡ Some claim → IsTrueAt f claim
true_at f claims at claim hold e =
    subst (IsTrueAt f) (get_or_from_slice_get claims at claim claim e) (hold at claim (slice_get_within claims at claim e))

one_true : (f : ℕ → ℤ) (claim : Claim) → IsTrueAt f claim → AreTrueAt f (claim ∷ [])
one_true f claim h zero d lt = h
one_true f claim h (suc k) d lt = absurd (omega arith)

pub true_more : (f : ℕ → ℤ) (claims : List Claim) (claim : Claim) → AreTrueAt f claims → IsTrueAt f claim → AreTrueAt f (claims ++ claim ∷ [])
true_more f claims claim hold h = All-append (IsTrueAt f) claims (claim ∷ []) hold (one_true f claim h)

pub true_replaced : (f : ℕ → ℤ) (claims : List Claim) (at : ℕ) (claim : Claim) → AreTrueAt f claims → IsTrueAt f claim → AreTrueAt f (slice_set claims at claim)
true_replaced f claims at claim hold h = All-set (IsTrueAt f) claims at claim h hold

-- ---- tests on whole numbers

not_zero : (z : ℤ) → IsTrue (not (is_zero z)) → (z ≤ℤ negsuc 0) ⊎ (pos 1 ≤ℤ z)
not_zero (pos zero) h = absurd (false≢true h)
not_zero (pos (suc n)) h = inr (omega (arith, ints))
not_zero (negsuc n) h = inl (omega (arith, ints))

-- ---- parts and cases

both : (a b : Bool) → IsTrue (a && b) → IsTrue a × IsTrue b
both true b h = (refl, h)
both false b h = absurd (false≢true h)

either : (a b : Bool) → IsTrue (a || b) → IsTrue a ⊎ IsTrue b
either true b h = inl refl
either false b h = inr h

pub true_parts : (f : ℕ → ℤ) (a b : Claim) → IsTrueAt f (And a b) → IsTrueAt f a × IsTrueAt f b
true_parts f a b h = both (truth a f) (truth b f) h

pub true_side : (f : ℕ → ℤ) (a b : Claim) → IsTrueAt f (Or a b) → IsTrueAt f a ⊎ IsTrueAt f b
true_side f a b h = either (truth a f) (truth b f) h

sum_at-reversed : (ps : List (ℕ × ℤ)) (f : ℕ → ℤ) → sum_at (times (negsuc 0) ps) f ≡ neg_ℤ (sum_at ps f)
sum_at-reversed [] f = refl
sum_at-reversed (p ∷ ps) f =
    let first : (negsuc 0 *ℤ p.1) *ℤ f p.0 ≡ neg_ℤ (p.1 *ℤ f p.0) = mul_assoc (negsuc 0) p.1 (f p.0) ∙ minus_one-mul (p.1 *ℤ f p.0) in
    let rest = sum_at-reversed ps f in
    omega (arith, ints, first, rest)

-- a term that is not 0 is below it or above it
pub true_sign : (f : ℕ → ℤ) (t : Linear) → IsTrueAt f (Ne t) → IsTrueAt f (below_zero t) ⊎ IsTrueAt f (above_zero t)
true_sign f t h = elim (not_zero (value_at t f) h) [
  | inl low ↦ inl (is_at_most_zero_from (sum_at t.pairs f +ℤ (t.rest +ℤ pos 1)) (omega (arith, ints, low)))
  | inr high ↦ inr (is_at_most_zero_from (sum_at (times (negsuc 0) t.pairs) f +ℤ (pos 1 -ℤ t.rest)) (omega (arith, ints, high, sum_at-reversed t.pairs f)))
]

int_split : (x k : ℤ) → (x ≤ℤ k) ⊎ ((k +ℤ pos 1) ≤ℤ x)
int_split x k = by_lt_z k x (λ lt. inr (omega (arith, ints))) (λ le. inl le)

-- a variable is at most k, or at least k + 1
pub true_bound : (f : ℕ → ℤ) (v : ℕ) (k : ℤ) → IsTrueAt f (at_most_number v k) ⊎ IsTrueAt f (at_least_number v (k +ℤ pos 1))
true_bound f v k = elim (int_split (f v) k) [
  | inl low ↦ inl (is_at_most_zero_from (((pos 1 *ℤ f v) +ℤ pos 0) +ℤ neg_ℤ k) (omega (arith, ints, one-mul (f v), low)))
  | inr high ↦ inr (is_at_most_zero_from (((negsuc 0 *ℤ f v) +ℤ pos 0) +ℤ (k +ℤ pos 1)) (omega (arith, ints, minus_one-mul (f v), high)))
]
