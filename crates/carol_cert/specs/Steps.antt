-- Which rows the steps make of a list of claims, and when they close it.
use Rattle.std.specs.Prelude.{ℕ, ◌<◌, List, [], ◌∷◌, ◌++◌, length, Option, Some, slice_get, slice_index_or, ℤ, pos, ◌≤ℤ◌, ◌<ℤ◌, unsigned_abs}
use Rattle.carol_formula.specs.Linear.{Linear, constant_of}
use Rattle.carol_formula.specs.Claim.{Claim, Le, Eq}
use Rattle.carol_formula.specs.Division.{Divides}
use Rattle.carol_cert.specs.PlainRow.{PlainRow, row_of, negated, multiple, sum_of_rows, quotient, IsSmall, IsAbsurd, zero_row, last_row}
use Rattle.carol_cert.specs.declared.step.RowStep.{RowStep}
use Rattle.carol_cert.specs.declared.step.RowStep.TheVariants.{Given, Reversed, Combine, Tighten}

-- ---- the claims that rows are taken from

-- a `Le` or an `Eq`
abbrev pub IsRow : Option Claim → Type 0
IsRow (Some (Le t)) = Unit {0}
IsRow (Some (Eq t)) = Unit {0}
IsRow _ = ⊥

-- an `Eq`
abbrev pub IsEquation : Option Claim → Type 0
IsEquation (Some (Eq t)) = Unit {0}
IsEquation _ = ⊥

-- the term that is compared
abbrev pub term_of : Option Claim → Linear
term_of (Some (Le t)) = t
term_of (Some (Eq t)) = t
term_of _ = constant_of (pos 0)

-- ---- one step

abbrev pub row_at : List PlainRow → ℕ → PlainRow
row_at rows a = slice_index_or rows a zero_row

-- the row that a step makes of the claims and of the rows before it
abbrev pub made : List Claim → List PlainRow → RowStep → PlainRow
made claims rows (Given at) = row_of (term_of (slice_get claims at))
made claims rows (Reversed at) = negated (row_of (term_of (slice_get claims at)))
made claims rows (Combine a m b n) = sum_of_rows (multiple m (row_at rows a)) (multiple n (row_at rows b))
made claims rows (Tighten a d) = quotient (unsigned_abs d) (row_at rows a)

-- m times row a and n times row b can be added: no product and no sum reaches 2 ^ 126
pub record CanCombine (rows : List PlainRow) (a : ℕ) (m : ℤ) (b : ℕ) (n : ℤ) : Type 0 where
  pub first_stands : a < length rows
  pub second_stands : b < length rows
  pub first_positive : pos 0 ≤ℤ m
  pub second_positive : pos 0 ≤ℤ n
  pub first_small : IsSmall (multiple m (row_at rows a))
  pub second_small : IsSmall (multiple n (row_at rows b))
  pub sum_small : IsSmall (sum_of_rows (multiple m (row_at rows a)) (multiple n (row_at rows b)))

-- row a can be divided by d
pub record CanTighten (rows : List PlainRow) (a : ℕ) (d : ℤ) : Type 0 where
  pub stands : a < length rows
  pub positive : pos 0 <ℤ d
  pub divides : (v : ℕ) → Divides (unsigned_abs d) ((row_at rows a).coefficient v)

-- the step has what it needs
abbrev pub IsAllowed : List Claim → List PlainRow → RowStep → Type 0
IsAllowed claims rows (Given at) = IsRow (slice_get claims at)
IsAllowed claims rows (Reversed at) = IsEquation (slice_get claims at)
IsAllowed claims rows (Combine a m b n) = CanCombine rows a m b n
IsAllowed claims rows (Tighten a d) = CanTighten rows a d

-- ---- all steps

-- the rows with those that the steps make after them
abbrev pub rows_made : List Claim → List PlainRow → List RowStep → List PlainRow
rows_made claims rows [] = rows
rows_made claims rows (step ∷ steps) = rows_made claims (rows ++ made claims rows step ∷ []) steps

-- each step has what it needs
abbrev pub AreAllowed : List Claim → List PlainRow → List RowStep → Type 0
AreAllowed claims rows [] = Unit {0}
AreAllowed claims rows (step ∷ steps) = IsAllowed claims rows step × AreAllowed claims (rows ++ made claims rows step ∷ []) steps

-- the steps show that the claims can't all be true: the last row is absurd
pub record Closes (claims : List Claim) (steps : List RowStep) : Type 0 where
  pub allowed : AreAllowed claims [] steps
  pub absurd_row : IsAbsurd (last_row (rows_made claims [] steps))
