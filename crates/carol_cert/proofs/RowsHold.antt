-- The rows that steps make of true claims are true.
use Rattle.std.proofs.Common.{ℕ, zero, suc, ◌≡◌, ◌<◌, ◌≤◌, List, [], ◌∷◌, ◌++◌, max, refl, arith}
use Rattle.std.specs.Prelude.{Option, Some, None, slice_get, ℤ, pos, negsuc, ◌*ℤ◌, ◌<ℤ◌, unsigned_abs}
use Rattle.std.proofs.Math.IntN.{zero-*ℤ}
use Rattle.std.proofs.lemmas.Int.{ints}
use Rattle.carol_formula.specs.Value.{value_at}
use Rattle.carol_formula.specs.Claim.{Claim, True, False, Le, Eq, Ne, And, Or, Not}
use Rattle.carol_cert.specs.PlainRow.{PlainRow, row_of, negated, zero_row, last_row}
use Rattle.carol_cert.specs.declared.step.RowStep.{RowStep}
use Rattle.carol_cert.specs.declared.step.RowStep.TheVariants.{Given, Reversed, Combine, Tighten}
use Rattle.carol_cert.specs.Steps.{IsRow, IsEquation, term_of, row_at, made, IsAllowed, rows_made, AreAllowed, Closes}
use Rattle.carol_cert.proofs.SumsBelow.{top, sum_below-zero}
use Rattle.carol_cert.proofs.RowValues.{Holds, row_value-row_of, row_value-negated, holds-combined, holds-quotient, absurd_fails}
use Rattle.carol_formula.proofs.Claims.{at_most_zero, zero_from}
use Rattle.carol_cert.proofs.ClaimsHold.{IsTrueAt, AreTrueAt, true_at}

-- ---- lists of rows

-- each row is true
abbrev EachHolds : ℕ → (ℕ → ℤ) → List PlainRow → Type 0
EachHolds n f [] = Unit {0}
EachHolds n f (r ∷ rows) = Holds n f r × EachHolds n f rows

each_more : (n : ℕ) (f : ℕ → ℤ) (rows : List PlainRow) (r : PlainRow) → EachHolds n f rows → Holds n f r → EachHolds n f (rows ++ r ∷ [])
each_more n f [] r each h = (h, tt)
each_more n f (s ∷ rows) r each h = (each.0, each_more n f rows r each.1 h)

zero_holds : (n : ℕ) (f : ℕ → ℤ) → Holds n f zero_row
zero_holds n f = record { holds = let none = sum_below-zero n (λ v. pos 0 *ℤ f v) (λ v _. zero-*ℤ (f v)) in omega (arith, ints, none) }

each_at : (n : ℕ) (f : ℕ → ℤ) (rows : List PlainRow) (a : ℕ) → EachHolds n f rows → Holds n f (row_at rows a)
each_at n f [] a each = zero_holds n f
each_at n f (r ∷ rows) zero each = each.0
each_at n f (r ∷ rows) (suc a) each = each_at n f rows a each.1

each_last : (n : ℕ) (f : ℕ → ℤ) (rows : List PlainRow) → EachHolds n f rows → Holds n f (last_row rows)
each_last n f [] each = zero_holds n f
each_last n f (r ∷ []) each = each.0
each_last n f (r ∷ s ∷ rows) each = each_last n f (s ∷ rows) each.1

-- ---- the variables of the claims

-- above each variable of a claim that gives a row
abbrev top_of : Option Claim → ℕ
top_of claim = top (term_of claim).pairs

abbrev tops : List Claim → ℕ
tops [] = 0
tops (claim ∷ claims) = max (top_of (Some claim)) (tops claims)

within_tops : (claims : List Claim) (at : ℕ) → top_of (slice_get claims at) ≤ tops claims
within_tops [] at = omega arith
within_tops (claim ∷ claims) zero = omega arith
within_tops (claim ∷ claims) (suc at) = let h = within_tops claims at in omega (arith, h)

-- ---- one step

given_holds : (n : ℕ) (f : ℕ → ℤ) (claim : Option Claim) → IsRow claim → ((c : Claim) → claim ≡ Some c → IsTrueAt f c) → top_of claim ≤ n → Holds n f (row_of (term_of claim))
given_holds n f (Some (Le t)) row true_claim h =
    record { holds = let low = at_most_zero (value_at t f) (true_claim (Le t) refl) in omega (arith, ints, row_value-row_of n t f h, low) }
given_holds n f (Some (Eq t)) row true_claim h =
    record { holds = let none = zero_from (value_at t f) (true_claim (Eq t) refl) in omega (arith, ints, row_value-row_of n t f h, none) }
given_holds n f (Some True) row true_claim h = absurd row
given_holds n f (Some False) row true_claim h = absurd row
given_holds n f (Some (Ne t)) row true_claim h = absurd row
given_holds n f (Some (And a b)) row true_claim h = absurd row
given_holds n f (Some (Or a b)) row true_claim h = absurd row
given_holds n f (Some (Not a)) row true_claim h = absurd row
given_holds n f None row true_claim h = absurd row

reversed_holds : (n : ℕ) (f : ℕ → ℤ) (claim : Option Claim) → IsEquation claim → ((c : Claim) → claim ≡ Some c → IsTrueAt f c) → top_of claim ≤ n → Holds n f (negated (row_of (term_of claim)))
reversed_holds n f (Some (Eq t)) row true_claim h =
    record { holds = let none = zero_from (value_at t f) (true_claim (Eq t) refl) in omega (arith, ints, row_value-negated n (row_of t) f, row_value-row_of n t f h, none) }
reversed_holds n f (Some (Le t)) row true_claim h = absurd row
reversed_holds n f (Some True) row true_claim h = absurd row
reversed_holds n f (Some False) row true_claim h = absurd row
reversed_holds n f (Some (Ne t)) row true_claim h = absurd row
reversed_holds n f (Some (And a b)) row true_claim h = absurd row
reversed_holds n f (Some (Or a b)) row true_claim h = absurd row
reversed_holds n f (Some (Not a)) row true_claim h = absurd row
reversed_holds n f None row true_claim h = absurd row

positive_abs : (d : ℤ) → pos 0 <ℤ d → 0 < unsigned_abs d
positive_abs (pos n) h = omega (arith, ints)
positive_abs (negsuc n) h = absurd (omega (arith, ints))

made_holds : (n : ℕ) (f : ℕ → ℤ) (claims : List Claim) (rows : List PlainRow) (step : RowStep) → tops claims ≤ n → AreTrueAt f claims → EachHolds n f rows → IsAllowed claims rows step → Holds n f (made claims rows step)
made_holds n f claims rows (Given at) wide hold each allowed =
    given_holds n f (slice_get claims at) allowed (λ c e. true_at f claims at c hold e) (let h = within_tops claims at in omega (arith, h))
made_holds n f claims rows (Reversed at) wide hold each allowed =
    reversed_holds n f (slice_get claims at) allowed (λ c e. true_at f claims at c hold e) (let h = within_tops claims at in omega (arith, h))
made_holds n f claims rows (Combine a m b k) wide hold each allowed =
    holds-combined n f m k (row_at rows a) (row_at rows b) allowed.first_positive allowed.second_positive (each_at n f rows a each) (each_at n f rows b each)
made_holds n f claims rows (Tighten a d) wide hold each allowed =
    holds-quotient n (unsigned_abs d) f (row_at rows a) (positive_abs d allowed.positive) allowed.divides (each_at n f rows a each)

-- ---- all steps

rows_hold : (n : ℕ) (f : ℕ → ℤ) (claims : List Claim) (rows : List PlainRow) (steps : List RowStep) → tops claims ≤ n → AreTrueAt f claims → EachHolds n f rows → AreAllowed claims rows steps → EachHolds n f (rows_made claims rows steps)
rows_hold n f claims rows [] wide hold each allowed = each
rows_hold n f claims rows (step ∷ steps) wide hold each allowed =
    rows_hold n f claims (rows ++ made claims rows step ∷ []) steps wide hold
    (each_more n f rows (made claims rows step) each (made_holds n f claims rows step wide hold each allowed.0)) allowed.1

-- steps that close a list show that its claims are not all true
pub closed_fails : (f : ℕ → ℤ) (claims : List Claim) (steps : List RowStep) → Closes claims steps → AreTrueAt f claims → ⊥
closed_fails f claims steps closes hold =
    absurd_fails (tops claims) f (last_row (rows_made claims [] steps)) closes.absurd_row
    (each_last (tops claims) f (rows_made claims [] steps) (rows_hold (tops claims) f claims [] steps (omega arith) hold tt closes.allowed))
