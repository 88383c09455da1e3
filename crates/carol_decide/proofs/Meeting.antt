-- Numbers that make rows or a whole formula true.
use Rattle.std.proofs.Common.{◌≡◌, ℕ, zero, suc, Bool, true, false, List, [], ◌∷◌, refl, sym, ◌∙◌, ap, subst, arith, ◌⊎◌, inl, inr}
use Rattle.std.specs.Prelude.{ℤ, pos, negsuc, ◌+ℤ◌, ◌-ℤ◌, ◌*ℤ◌, ◌≤ℤ◌, ◌<ℤ◌, neg_ℤ, IsTrue, ◌&&◌, ◌||◌, not}
use Rattle.std.specs.List.{All}
use Rattle.std.proofs.lemmas.Bool.{false≢true}
use Rattle.std.proofs.lemmas.Int.{ints}
use Rattle.carol_formula.specs.Bounds.{IsBelow, value_limit}
use Rattle.carol_formula.specs.Linear.{Linear, times, scaled, is_zero}
use Rattle.carol_formula.specs.Value.{sum_at, value_at, SumFits, Fits}
use Rattle.carol_formula.specs.Claim.{Claim, True, False, Le, Eq, Ne, And, Or, Not, HasNoNot, ClaimFits, truth}
use Rattle.carol_formula.specs.declared.term.Row.{Row}
use Rattle.carol_formula.proofs.Claims.{at_most_zero, is_at_most_zero_from}
use Rattle.carol_formula.proofs.Integers.{minus_one-mul, mul_assoc}
use Rattle.carol_formula.proofs.Sums.{sum_at-times, value_at-scaled}
use Rattle.carol_cert.specs.Cases.{below_zero, above_zero}
use Rattle.carol_difference.specs.Decision.{IsMet as IsMetRow}
use Rattle.carol_elimination.specs.Due.{rows_at, AreRows}
use Rattle.carol_elimination.specs.Entries.{terms_of}
use Rattle.carol_elimination.specs.Choosing.{IsMet, AreMet}
use Rattle.carol_decide.specs.Makes.{Makes, MakesAll}

-- ---- the whole formula

both : (a b : Bool) → IsTrue a → IsTrue b → IsTrue (a && b)
both true b x y = y
both false b x y = absurd (false≢true x)

first : (a b : Bool) → IsTrue a → IsTrue (a || b)
first true b x = refl
first false b x = absurd (false≢true x)

second : (a b : Bool) → IsTrue b → IsTrue (a || b)
second true b x = refl
second false b x = x

halves : (a b : Bool) → IsTrue (a && b) → IsTrue a × IsTrue b
halves true b x = (refl, x)
halves false b x = absurd (false≢true x)

either : (a b : Bool) → IsTrue (a || b) → IsTrue a ⊎ IsTrue b
either true b x = inl refl
either false b x = inr x

-- ---- a `Ne`

below_not : (z : ℤ) → (z +ℤ pos 1) ≤ℤ pos 0 → IsTrue (not (is_zero z))
below_not (pos zero) h = absurd (omega (arith, ints))
below_not (pos (suc n)) h = refl
below_not (negsuc n) h = refl

above_not : (z : ℤ) → (pos 1 -ℤ z) ≤ℤ pos 0 → IsTrue (not (is_zero z))
above_not (pos zero) h = absurd (omega (arith, ints))
above_not (pos (suc n)) h = refl
above_not (negsuc n) h = refl

regroup_below : (s r : ℤ) → s +ℤ (r +ℤ pos 1) ≡ (s +ℤ r) +ℤ pos 1
regroup_below s r = omega (arith, ints)

regroup_above : (s r : ℤ) → (negsuc 0 *ℤ s) +ℤ (pos 1 -ℤ r) ≡ pos 1 -ℤ (s +ℤ r)
regroup_above s r = omega (arith, ints)

value_below : (t : Linear) (f : ℕ → ℤ) → sum_at t.pairs f +ℤ (t.rest +ℤ pos 1) ≡ value_at t f +ℤ pos 1
value_below t f = regroup_below (sum_at t.pairs f) t.rest

value_above : (t : Linear) (f : ℕ → ℤ) → sum_at (times (negsuc 0) t.pairs) f +ℤ (pos 1 -ℤ t.rest) ≡ pos 1 -ℤ value_at t f
value_above t f = ap (λ s. s +ℤ (pos 1 -ℤ t.rest)) (sum_at-times (negsuc 0) t.pairs f) ∙ regroup_above (sum_at t.pairs f) t.rest

ne_below : (t : Linear) (f : ℕ → ℤ) → IsTrue (truth (below_zero t) f) → IsTrue (truth (Ne t) f)
ne_below t f h = below_not (value_at t f) (subst (λ z. z ≤ℤ pos 0) (value_below t f) (at_most_zero _ h))

ne_above : (t : Linear) (f : ℕ → ℤ) → IsTrue (truth (above_zero t) f) → IsTrue (truth (Ne t) f)
ne_above t f h = above_not (value_at t f) (subst (λ z. z ≤ℤ pos 0) (value_above t f) (at_most_zero _ h))

-- the formula is true where a case of it is
pub holds_from : (f : ℕ → ℤ) (c : Claim) → Makes f c → IsTrue (truth c f)
holds_from f True h = refl
holds_from f False h = absurd h
holds_from f (Le t) h = h.1
holds_from f (Eq t) h = h.1
holds_from f (Ne t) (inl h) = ne_below t f h.1
holds_from f (Ne t) (inr h) = ne_above t f h.1
holds_from f (And a b) h = both (truth a f) (truth b f) (holds_from f a h.0) (holds_from f b h.1)
holds_from f (Or a b) (inl h) = first (truth a f) (truth b f) (holds_from f a h)
holds_from f (Or a b) (inr h) = second (truth a f) (truth b f) (holds_from f b h)
holds_from f (Not a) h = absurd h

-- ---- a `Ne` whose term can be added up

sign : (z : ℤ) → IsTrue (not (is_zero z)) → (z <ℤ pos 0) ⊎ (pos 0 <ℤ z)
sign (pos zero) h = absurd (false≢true h)
sign (pos (suc n)) h = inr (omega (arith, ints))
sign (negsuc n) h = inl (omega (arith, ints))

shrinks_below : (z s r : ℤ) → z ≡ s +ℤ r → z <ℤ pos 0 → IsBelow value_limit (s +ℤ r) → IsBelow value_limit (s +ℤ (r +ℤ pos 1))
shrinks_below z s r e h b = omega (arith, ints)

shrinks_above : (z s r u : ℤ) → u ≡ neg_ℤ s → z ≡ s +ℤ r → pos 0 <ℤ z → IsBelow value_limit (s +ℤ r) → IsBelow value_limit (u +ℤ (pos 1 -ℤ r))
shrinks_above z s r u n e h b = omega (arith, ints)

regrouped : (b p s r z : ℤ) → z ≡ (b +ℤ (p +ℤ s)) +ℤ r → z ≡ ((b +ℤ p) +ℤ s) +ℤ r
regrouped b p s r z e = omega (arith, ints)

fits_below : (z b : ℤ) (ps : List (ℕ × ℤ)) (r : ℤ) (f : ℕ → ℤ) → z ≡ (b +ℤ sum_at ps f) +ℤ r → z <ℤ pos 0 → SumFits value_limit b ps r f → SumFits value_limit b ps (r +ℤ pos 1) f
fits_below z b [] r f e h fit = shrinks_below z b r (omega (arith, ints, e)) h fit
fits_below z b (p ∷ ps) r f e h fit = (fit.0, fit.1, fits_below z (b +ℤ (p.1 *ℤ f p.0)) ps r f (regrouped b (p.1 *ℤ f p.0) (sum_at ps f) r z e) h fit.2)

minus_product : (c x : ℤ) → (negsuc 0 *ℤ c) *ℤ x ≡ neg_ℤ (c *ℤ x)
minus_product c x = mul_assoc (negsuc 0) c x ∙ minus_one-mul (c *ℤ x)

minus_small : (z u : ℤ) → u ≡ neg_ℤ z → IsBelow value_limit z → IsBelow value_limit u
minus_small z u e h = omega (arith, ints)

minus_sum : (u b q p : ℤ) → u ≡ neg_ℤ b → q ≡ neg_ℤ p → u +ℤ q ≡ neg_ℤ (b +ℤ p)
minus_sum u b q p e h = omega (arith, ints)

fits_above : (z u b : ℤ) (ps : List (ℕ × ℤ)) (r : ℤ) (f : ℕ → ℤ) → u ≡ neg_ℤ b → z ≡ (b +ℤ sum_at ps f) +ℤ r → pos 0 <ℤ z → SumFits value_limit b ps r f → SumFits value_limit u (times (negsuc 0) ps) (pos 1 -ℤ r) f
fits_above z u b [] r f n e h fit = shrinks_above z b r u n (omega (arith, ints, e)) h fit
fits_above z u b (p ∷ ps) r f n e h fit =
    let product : (negsuc 0 *ℤ p.1) *ℤ f p.0 ≡ neg_ℤ (p.1 *ℤ f p.0) = minus_product p.1 (f p.0) in
    let sum = minus_sum u b ((negsuc 0 *ℤ p.1) *ℤ f p.0) (p.1 *ℤ f p.0) n product in (
      minus_small (p.1 *ℤ f p.0) ((negsuc 0 *ℤ p.1) *ℤ f p.0) product fit.0,
      minus_small (b +ℤ (p.1 *ℤ f p.0)) (u +ℤ ((negsuc 0 *ℤ p.1) *ℤ f p.0)) sum fit.1,
      fits_above z (u +ℤ ((negsuc 0 *ℤ p.1) *ℤ f p.0)) (b +ℤ (p.1 *ℤ f p.0)) ps r f sum (regrouped b (p.1 *ℤ f p.0) (sum_at ps f) r z e) h fit.2,
    )

from_zero : (s r : ℤ) → s +ℤ r ≡ (pos 0 +ℤ s) +ℤ r
from_zero s r = omega (arith, ints)

negative_at_most : (z : ℤ) → z <ℤ pos 0 → (z +ℤ pos 1) ≤ℤ pos 0
negative_at_most z h = omega (arith, ints)

positive_at_most : (z : ℤ) → pos 0 <ℤ z → (pos 1 -ℤ z) ≤ℤ pos 0
positive_at_most z h = omega (arith, ints)

makes_ne : (f : ℕ → ℤ) (t : Linear) → Fits t f → IsTrue (truth (Ne t) f) → Makes f (Ne t)
makes_ne f t fit h =
    elim (sign (value_at t f) h) [
      | inl below ↦ inl (fits_below (value_at t f) (pos 0) t.pairs t.rest f (from_zero (sum_at t.pairs f) t.rest) below fit, is_at_most_zero_from _ (subst (λ z. z ≤ℤ pos 0) (sym (value_below t f)) (negative_at_most (value_at t f) below)))
      | inr above ↦ inr (fits_above (value_at t f) (pos 0) (pos 0) t.pairs t.rest f refl (from_zero (sum_at t.pairs f) t.rest) above fit, is_at_most_zero_from _ (subst (λ z. z ≤ℤ pos 0) (sym (value_above t f)) (positive_at_most (value_at t f) above)))
    ]

-- a formula that is true, and whose every term can be added up, is true in some case
pub makes_from : (f : ℕ → ℤ) (c : Claim) → HasNoNot c → ClaimFits c f → IsTrue (truth c f) → Makes f c
makes_from f True n fit h = tt
makes_from f False n fit h = absurd (false≢true h)
makes_from f (Le t) n fit h = (fit, h)
makes_from f (Eq t) n fit h = (fit, h)
makes_from f (Ne t) n fit h = makes_ne f t fit h
makes_from f (And a b) n fit h = let p = halves (truth a f) (truth b f) h in (makes_from f a n.0 fit.0 p.0, makes_from f b n.1 fit.1 p.1)
makes_from f (Or a b) n fit h =
    elim (either (truth a f) (truth b f) h) [ inl x ↦ inl (makes_from f a n.0 fit.0 x) | inr x ↦ inr (makes_from f b n.1 fit.1 x) ]
makes_from f (Not a) n fit h = absurd n

-- ---- rows

zero_between : (z m : ℤ) → m ≡ negsuc 0 *ℤ z → z ≤ℤ pos 0 → m ≤ℤ pos 0 → z ≡ pos 0
zero_between z m e h k = omega (arith, ints)

zero_is : (z : ℤ) → z ≡ pos 0 → IsTrue (is_zero z)
zero_is z e = ap is_zero e

-- numbers that make all rows of the claims true make the claims
pub made_from_rows : (f : ℕ → ℤ) (claims : List Claim) → AreRows claims → AreMet f (rows_at claims) → MakesAll f claims
made_from_rows f [] rows h = tt
made_from_rows f (True ∷ claims) rows h = (tt, made_from_rows f claims rows h)
made_from_rows f (False ∷ claims) rows h = absurd rows
made_from_rows f (Le t ∷ claims) rows h =
    let here : IsMet f t = h t (inl refl) in
    ((here.fits, is_at_most_zero_from (value_at t f) here.holds), made_from_rows f claims rows (λ r a. h r (inr a)))
made_from_rows f (Eq t ∷ claims) rows h =
    let here : IsMet f t = h t (inl refl) in
    let turned : IsMet f (scaled (negsuc 0) t) = h (scaled (negsuc 0) t) (inr (inl refl)) in
    let none : value_at t f ≡ pos 0 = zero_between (value_at t f) (value_at (scaled (negsuc 0) t) f) (value_at-scaled (negsuc 0) t f) here.holds turned.holds in
    ((here.fits, zero_is (value_at t f) none), made_from_rows f claims rows (λ r a. h r (inr (inr a))))
made_from_rows f (Ne t ∷ claims) rows h = absurd rows
made_from_rows f (And a b ∷ claims) rows h = absurd rows
made_from_rows f (Or a b ∷ claims) rows h = absurd rows
made_from_rows f (Not a ∷ claims) rows h = absurd rows

-- ---- rows of differences

All-head : (f : ℕ → ℤ) (row : Row) (rows : List Row) → All (IsMetRow f) (row ∷ rows) → IsMetRow f row
All-head f row rows h = h 0 row (omega arith)

All-tail : (f : ℕ → ℤ) (row : Row) (rows : List Row) → All (IsMetRow f) (row ∷ rows) → All (IsMetRow f) rows
All-tail f row rows h k d l = h (suc k) d (omega arith)

pub met_rows : (f : ℕ → ℤ) (rows : List Row) → All (IsMetRow f) rows → AreMet f (terms_of rows)
met_rows f [] h r a = absurd a
met_rows f (row ∷ rows) h r (inl e) = let one = All-head f row rows h in subst (IsMet f) (sym e) (record { fits = one.0; holds = at_most_zero (value_at row.0 f) one.1 })
met_rows f (row ∷ rows) h r (inr a) = met_rows f rows (All-tail f row rows h) r a
