-- Whole numbers and terms divided by a positive number. The code's division, which leaves a rest of at
-- least 0, rounds down.
use Rattle.std.proofs.Common.{ℕ, zero, suc, ◌≡◌, ◌≢◌, ◌+◌, ◌-◌, ◌*◌, ◌/◌, ◌%◌, ◌<◌, ◌≤◌, List, [], ◌∷◌, ◌++◌, append-nil, length, refl, sym, ap, subst, ◌∙◌, inl, inr, arith}
use Rattle.std.specs.Prelude.{ℤ, pos, negsuc, ◌+ℤ◌, ◌*ℤ◌, neg_ℤ, ◌≤ℤ◌, ◌<ℤ◌, ◌↔◌, unsigned_abs}
use Rattle.std.specs.Int.{int_div_euclid, int_rem_euclid}
use Rattle.std.proofs.lemmas.Int.{ints}
use Rattle.std.proofs.lemmas.Bool.{cases_lt}
use Rattle.std.proofs.Math.IntN.{*ℤ-zero}
use Rattle.std.proofs.Math.Nat.{div-le_self, le-div_iff_mul-le, div-lt_iff_lt-mul, suc-mod, mod_self, mod-eq_of_lt, mod-lt}
use Rattle.carol_formula.specs.Bounds.{IsBelow, term_limit}
use Rattle.carol_formula.specs.Linear.{Linear, IsTerm, AscendsFrom, NoneZero, AllBelow}
use Rattle.carol_formula.specs.Value.{sum_at, value_at}
use Rattle.carol_formula.specs.Division.{floor_of, ceiling_of, Divides, EachDivides, quotients, quotient_of}
use Rattle.carol_formula.proofs.Integers.{mul-add, mul_assoc}
use Rattle.carol_formula.proofs.Merging.{nothing}

-- ---- the code's division

full_rest : (a n : ℕ) → 0 < n → n - 1 - a % n ≡ 0 → suc a % n ≡ 0
full_rest a n p e =
    let top : suc (a % n) ≡ n = omega (arith, mod-lt a p) in
    suc-mod a n ∙ ap (λ x. x % n) top ∙ mod_self n

no_rest : (a n : ℕ) → 0 < n → suc a % n ≡ 0 → n - 1 - a % n ≡ 0
no_rest a n p e =
    elim (cases_lt (suc (a % n)) n) [
      | inl below ↦ absurd (let not_zero : suc (a % n) ≡ 0 = sym (mod-eq_of_lt below) ∙ sym (suc-mod a n) ∙ e in omega arith)
      | inr above ↦ omega arith
    ]

-- a number above 0 is above 0 in absolute value
pub positive_abs : (d : ℤ) → pos 0 <ℤ d → 0 < unsigned_abs d
positive_abs d h = omega (arith, ints)

pub divides_from_rest : (z d : ℤ) → pos 0 <ℤ d → int_rem_euclid z d ≡ pos 0 → Divides (unsigned_abs d) z
divides_from_rest (pos a) d p e = ap unsigned_abs e
divides_from_rest (negsuc a) d p e = full_rest a (unsigned_abs d) (positive_abs d p) (ap unsigned_abs e)

pub rest_from_divides : (z d : ℤ) → pos 0 <ℤ d → Divides (unsigned_abs d) z → int_rem_euclid z d ≡ pos 0
rest_from_divides (pos a) d p e = ap pos e
rest_from_divides (negsuc a) d p e = ap pos (no_rest a (unsigned_abs d) (positive_abs d p) e)

pub int_div_euclid-floor_of : (z d : ℤ) → pos 0 <ℤ d → int_div_euclid z d ≡ floor_of z (unsigned_abs d)
int_div_euclid-floor_of (pos a) (pos d) p = refl
int_div_euclid-floor_of (negsuc a) (pos d) p = refl
int_div_euclid-floor_of z (negsuc d) p = absurd (omega (arith, ints))

-- ---- rounding down

-- a multiple of d, less 1, divided by d
below_multiple : (d q a : ℕ) → 0 < d → suc a ≡ d * suc q → a / d ≡ q
below_multiple d q a positive e =
    let fits : q ≤ a / d = (le-div_iff_mul-le positive).1 (omega arith) in
    let ends : a / d < suc q = (div-lt_iff_lt-mul positive).1 (omega arith) in
    omega arith

multiple_after : (d a : ℕ) → 0 < d → suc a % d ≡ 0 → d * suc (a / d) ≡ suc a
multiple_after d a positive even = from (suc a / d) (omega arith)
  where
    from : (q : ℕ) → suc a ≡ d * q → d * suc (a / d) ≡ suc a
    from zero e = absurd (omega arith)
    from (suc q) e = ap (λ x. d * suc x) (below_multiple d q a positive e) ∙ sym e

-- a number that d divides is d times its quotient
pub mul-floor_of : (d : ℕ) (z : ℤ) → 0 < d → Divides d z → pos d *ℤ floor_of z d ≡ z
mul-floor_of d (pos a) positive even = ap pos (omega arith)
mul-floor_of d (negsuc a) positive even = ap (λ x. neg_ℤ (pos x)) (multiple_after d a positive even)

-- what is at most z after it is taken d times is at most the quotient, and the other way round
pub below_floor_of : (d : ℕ) (s z : ℤ) → 0 < d → (pos d *ℤ s) ≤ℤ z → s ≤ℤ floor_of z d
below_floor_of d (pos n) (pos a) positive h =
    let fits : n * d ≤ a = omega (arith, ints) in
    let le : n ≤ a / d = (le-div_iff_mul-le positive).1 fits in
    omega (arith, ints)
below_floor_of d (negsuc n) (pos a) positive h = omega (arith, ints)
below_floor_of d (pos n) (negsuc a) positive h = absurd (omega (arith, ints))
below_floor_of d (negsuc n) (negsuc a) positive h =
    let fits : a < suc n * d = omega (arith, ints) in
    let lt : a / d < suc n = (div-lt_iff_lt-mul positive).1 fits in
    omega (arith, ints)

from_below_floor_of : (d : ℕ) (s z : ℤ) → 0 < d → s ≤ℤ floor_of z d → (pos d *ℤ s) ≤ℤ z
from_below_floor_of d (pos n) (pos a) positive h =
    let le : n ≤ a / d = omega (arith, ints) in
    let fits : n * d ≤ a = (le-div_iff_mul-le positive).0 le in
    omega (arith, ints)
from_below_floor_of d (negsuc n) (pos a) positive h = omega (arith, ints)
from_below_floor_of d (pos n) (negsuc a) positive h = absurd (omega (arith, ints))
from_below_floor_of d (negsuc n) (negsuc a) positive h =
    let lt : a / d < suc n = omega (arith, ints) in
    let fits : a < suc n * d = (div-lt_iff_lt-mul positive).0 lt in
    omega (arith, ints)

-- ---- terms

floor_small : (d : ℕ) (z : ℤ) → unsigned_abs (floor_of z d) ≤ unsigned_abs z
floor_small d (pos a) = omega (arith, div-le_self a d)
floor_small d (negsuc a) = omega (arith, div-le_self a d)

quotients_below : (limit d : ℕ) (ps : List (ℕ × ℤ)) → AllBelow limit ps → AllBelow limit (quotients d ps)
quotients_below limit d [] h = tt
quotients_below limit d (p ∷ ps) h = (omega (arith, h.0, floor_small d p.1), quotients_below limit d ps h.1)

quotients_ascend : (low d : ℕ) (ps : List (ℕ × ℤ)) → AscendsFrom low ps → AscendsFrom low (quotients d ps)
quotients_ascend low d [] a = tt
quotients_ascend low d (p ∷ ps) a = (a.0, quotients_ascend (p.0 + 1) d ps a.1)

quotients_nonzero : (d : ℕ) (ps : List (ℕ × ℤ)) → 0 < d → EachDivides d ps → NoneZero ps → NoneZero (quotients d ps)
quotients_nonzero d [] positive even n = tt
quotients_nonzero d (p ∷ ps) positive even n = (λ e. n.0 (sym (mul-floor_of d p.1 positive even.0) ∙ ap (λ z. pos d *ℤ z) e ∙ *ℤ-zero (pos d)), quotients_nonzero d ps positive even.1 n.1)

neg_small : (z : ℤ) → unsigned_abs (neg_ℤ z) ≡ unsigned_abs z
neg_small z = omega (arith, ints)

pub IsTerm-quotient_of : (d : ℕ) (t : Linear) → 0 < d → EachDivides d t.pairs → IsTerm t → IsTerm (quotient_of d t)
IsTerm-quotient_of d t positive even is = record {
  normal = record { ascends = quotients_ascend 0 d t.pairs is.normal.ascends; none_zero = quotients_nonzero d t.pairs positive even is.normal.none_zero };
  within = record { coefficients = quotients_below term_limit d t.pairs is.within.coefficients; constant = omega (arith, is.within.constant, neg_small (floor_of (neg_ℤ t.rest) d), floor_small d (neg_ℤ t.rest), neg_small t.rest) };
}

sum_at-quotients : (d : ℕ) (ps : List (ℕ × ℤ)) (f : ℕ → ℤ) → 0 < d → EachDivides d ps → pos d *ℤ sum_at (quotients d ps) f ≡ sum_at ps f
sum_at-quotients d [] f positive even = *ℤ-zero (pos d)
sum_at-quotients d (p ∷ ps) f positive even = mul-add (pos d) (floor_of p.1 d *ℤ f p.0) (sum_at (quotients d ps) f) ∙ ap (λ z. z +ℤ (pos d *ℤ sum_at (quotients d ps) f)) (sym (mul_assoc (pos d) (floor_of p.1 d) (f p.0)) ∙ ap (λ z. z *ℤ f p.0) (mul-floor_of d p.1 positive even.0)) ∙ ap (λ z. (p.1 *ℤ f p.0) +ℤ z) (sum_at-quotients d ps f positive even.1)

-- a quotient is at most 0 exactly where the term is
pub quotient_same : (d : ℕ) (t : Linear) (f : ℕ → ℤ) → 0 < d → EachDivides d t.pairs → (value_at (quotient_of d t) f ≤ℤ pos 0) ↔ (value_at t f ≤ℤ pos 0)
quotient_same d t f positive even = (forth, back)
  where
    sum : ℤ
    sum = sum_at (quotients d t.pairs) f

    whole : pos d *ℤ sum ≡ sum_at t.pairs f
    whole = sum_at-quotients d t.pairs f positive even

    forth : value_at (quotient_of d t) f ≤ℤ pos 0 → value_at t f ≤ℤ pos 0
    forth h = let le = from_below_floor_of d sum (neg_ℤ t.rest) positive (omega (arith, ints, h)) in omega (arith, ints, le, whole)

    back : value_at t f ≤ℤ pos 0 → value_at (quotient_of d t) f ≤ℤ pos 0
    back h = let le = below_floor_of d sum (neg_ℤ t.rest) positive (omega (arith, ints, h, whole)) in omega (arith, ints, le)

-- once nothing is left, the quotients so far and the rounded constant are the quotient
pub divided : (t : Linear) (d : ℕ) (ps left : List (ℕ × ℤ)) (number r : ℤ) → ps ++ quotients d left ≡ quotients d t.pairs → length left ≡ 0 → number ≡ t.rest → r ≡ ceiling_of number d → record { pairs = ps; rest = r } ≡ quotient_of d t
divided t d ps left number r h e n g = ap with_pairs (sym (append-nil ps) ∙ ap (λ zs. ps ++ quotients d zs) (sym (nothing left e)) ∙ h) ∙ ap with_rest (g ∙ ap (λ z. ceiling_of z d) n)
  where
    with_pairs : List (ℕ × ℤ) → Linear
    with_pairs zs = record { pairs = zs; rest = r }

    with_rest : ℤ → Linear
    with_rest z = record { pairs = quotients d t.pairs; rest = z }
