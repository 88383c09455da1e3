-- The rows that steps make, by their numbers.
use Rattle.std.proofs.Common.{◌≡◌, ℕ, zero, suc, ◌+◌, List, [], ◌∷◌, ◌++◌, length, take, refl, sym, ◌∙◌, ap, subst, arith, append_assoc, append-nil, length-append}
use Rattle.std.specs.Prelude.{Some, slice_get}
use Rattle.std.proofs.Math.Seq.{take-append_seam, get_or-append_seam}
use Rattle.carol_formula.specs.Claim.{Claim}
use Rattle.carol_cert.specs.PlainRow.{PlainRow, zero_row, last_row}
use Rattle.carol_cert.specs.Steps.{row_at, made, IsAllowed, rows_made, AreAllowed}
use Rattle.carol_cert.specs.declared.step.RowStep.{RowStep}

-- ---- one step more

pub rows_made-push : (claims : List Claim) (before : List PlainRow) (steps : List RowStep) (s : RowStep) → rows_made claims before (steps ++ s ∷ []) ≡ rows_made claims before steps ++ made claims (rows_made claims before steps) s ∷ []
rows_made-push claims before [] s = refl
rows_made-push claims before (r ∷ steps) s = rows_made-push claims (before ++ made claims before r ∷ []) steps s

pub AreAllowed-push : (claims : List Claim) (before : List PlainRow) (steps : List RowStep) (s : RowStep) → AreAllowed claims before steps → IsAllowed claims (rows_made claims before steps) s → AreAllowed claims before (steps ++ s ∷ [])
AreAllowed-push claims before [] s h one = (one, tt)
AreAllowed-push claims before (r ∷ steps) s h one = (h.0, AreAllowed-push claims (before ++ made claims before r ∷ []) steps s h.1 one)

pub length-rows_made : (claims : List Claim) (before : List PlainRow) (steps : List RowStep) → length (rows_made claims before steps) ≡ length before + length steps
length-rows_made claims before [] = omega arith
length-rows_made claims before (s ∷ steps) =
    let rest = length-rows_made claims (before ++ made claims before s ∷ []) steps in
    omega (arith, rest, length-append before (made claims before s ∷ []))

pub last_row-push : (rows : List PlainRow) (r : PlainRow) → last_row (rows ++ r ∷ []) ≡ r
last_row-push [] r = refl
last_row-push (q ∷ []) r = refl
last_row-push (q ∷ s ∷ rows) r = last_row-push (s ∷ rows) r

pub last_row-at : (rows : List PlainRow) (k : ℕ) → k + 1 ≡ length rows → last_row rows ≡ row_at rows k
last_row-at [] k e = absurd (omega arith)
last_row-at (r ∷ []) zero e = refl
last_row-at (r ∷ []) (suc k) e = absurd (omega arith)
last_row-at (r ∷ s ∷ rows) zero e = absurd (omega arith)
last_row-at (r ∷ s ∷ rows) (suc k) e = last_row-at (s ∷ rows) k (omega arith)

-- ---- a row among all rows

-- row k is what the step makes of the rows before it, with all that it needs
pub record MakesRow (claims : List Claim) (rows : List PlainRow) (k : ℕ) (s : RowStep) : Type 0 where
  pub allowed : IsAllowed claims (take k rows) s
  pub is : row_at rows k ≡ made claims (take k rows) s

rows_made-grow : (claims : List Claim) (before : List PlainRow) (steps : List RowStep) → (more : List PlainRow) × (rows_made claims before steps ≡ before ++ more)
rows_made-grow claims before [] = ([], sym (append-nil before))
rows_made-grow claims before (s ∷ steps) =
    let rest = rows_made-grow claims (before ++ made claims before s ∷ []) steps in
    (made claims before s ∷ rest.0, rest.1 ∙ append_assoc before (made claims before s ∷ []) rest.0)

first_makes : (claims : List Claim) (before more rows : List PlainRow) (s : RowStep) (k : ℕ) → k ≡ length before → rows ≡ before ++ made claims before s ∷ more → IsAllowed claims before s → MakesRow claims rows k s
first_makes claims before more rows s k l e h =
    let front : take k rows ≡ before = ap (take k) e ∙ ap (λ n. take n (before ++ made claims before s ∷ more)) l ∙ take-append_seam before (made claims before s ∷ more) in
    let here : row_at rows k ≡ made claims before s = ap (λ rs. row_at rs k) e ∙ ap (row_at (before ++ made claims before s ∷ more)) l ∙ get_or-append_seam before (made claims before s) more zero_row in
    record { allowed = subst (λ rs. IsAllowed claims rs s) (sym front) h; is = here ∙ ap (λ rs. made claims rs s) (sym front) }

makes_after : (claims : List Claim) (before : List PlainRow) (steps : List RowStep) (j : ℕ) (s : RowStep) → AreAllowed claims before steps → slice_get steps j ≡ Some s → MakesRow claims (rows_made claims before steps) (length before + j) s
makes_after claims before [] j s h e = cc
makes_after claims before (r ∷ steps) zero s h e =
    let same : r ≡ s = cc in
    let rest = rows_made-grow claims (before ++ made claims before r ∷ []) steps in
    subst (MakesRow claims (rows_made claims before (r ∷ steps)) (length before + 0)) same
    (first_makes claims before rest.0 (rows_made claims before (r ∷ steps)) r (length before + 0) (omega arith) (rest.1 ∙ append_assoc before (made claims before r ∷ []) rest.0) h.0)
makes_after claims before (r ∷ steps) (suc j) s h e =
    let count : length (before ++ made claims before r ∷ []) + j ≡ length before + suc j = omega (arith, length-append before (made claims before r ∷ [])) in
    subst (λ n. MakesRow claims (rows_made claims before (r ∷ steps)) n s) count (makes_after claims (before ++ made claims before r ∷ []) steps j s h.1 e)

pub makes_row : (claims : List Claim) (steps : List RowStep) (j : ℕ) (s : RowStep) → AreAllowed claims [] steps → slice_get steps j ≡ Some s → MakesRow claims (rows_made claims [] steps) j s
makes_row claims steps j s h e = subst (λ n. MakesRow claims (rows_made claims [] steps) n s) (omega arith) (makes_after claims [] steps j s h e)
