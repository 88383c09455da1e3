-- One column of the rows that steps make: the coefficients of one variable, or the constants. Each
-- of its numbers is made of earlier ones of the same column.
use Rattle.std.specs.Prelude.{ℕ, ◌≡◌, ◌<◌, List, [], ◌∷◌, ◌++◌, length, slice_get, slice_index_or, ℤ, pos, ◌+ℤ◌, ◌*ℤ◌, ◌≤ℤ◌, ◌<ℤ◌, neg_ℤ, unsigned_abs}
use Rattle.carol_formula.specs.Bounds.{IsBelow, value_limit}
use Rattle.carol_formula.specs.Claim.{Claim}
use Rattle.carol_formula.specs.Division.{floor_of, ceiling_of, Divides}
use Rattle.carol_cert.specs.PlainRow.{PlainRow, row_of}
use Rattle.carol_cert.specs.Steps.{IsRow, IsEquation, term_of}
use Rattle.carol_cert.specs.declared.step.RowStep.{RowStep}
use Rattle.carol_cert.specs.declared.step.RowStep.TheVariants.{Given, Reversed, Combine, Tighten}
use Rattle.carol_cert.specs.declared.column.Column.{Column}
use Rattle.carol_cert.specs.declared.column.Column.TheVariants.{Coefficient, Constant}

-- the number of a row in the column
abbrev pub entry_of : Column → PlainRow → ℤ
entry_of (Coefficient v) r = r.coefficient v
entry_of Constant r = r.rest

-- the number of row a
abbrev pub number_of : List ℤ → ℕ → ℤ
number_of numbers a = slice_index_or numbers a (pos 0)

-- the last number, and 0 where there is none
abbrev pub last_number : List ℤ → ℤ
last_number [] = pos 0
last_number (z ∷ []) = z
last_number (z ∷ y ∷ zs) = last_number (y ∷ zs)

-- ---- one step

-- the number of a row that is divided by d
abbrev pub divided : Column → ℕ → ℤ → ℤ
divided (Coefficient v) d z = floor_of z d
divided Constant d z = ceiling_of z d

-- the column doesn't forbid to divide by d
abbrev pub CanDivide : Column → ℕ → ℤ → Type 0
CanDivide (Coefficient v) d z = Divides d z
CanDivide Constant d z = Unit {0}

-- the number that a step makes of those before it
abbrev pub number_made : Column → List Claim → List ℤ → RowStep → ℤ
number_made c claims numbers (Given at) = entry_of c (row_of (term_of (slice_get claims at)))
number_made c claims numbers (Reversed at) = neg_ℤ (entry_of c (row_of (term_of (slice_get claims at))))
number_made c claims numbers (Combine a m b n) = (m *ℤ number_of numbers a) +ℤ (n *ℤ number_of numbers b)
number_made c claims numbers (Tighten a d) = divided c (unsigned_abs d) (number_of numbers a)

-- the sum of two multiples stands, and stays below 2 ^ 126 on the way
pub record AddsUp (numbers : List ℤ) (a : ℕ) (m : ℤ) (b : ℕ) (n : ℤ) : Type 0 where
  pub first_stands : a < length numbers
  pub second_stands : b < length numbers
  pub first_positive : pos 0 ≤ℤ m
  pub second_positive : pos 0 ≤ℤ n
  pub first_small : IsBelow value_limit (m *ℤ number_of numbers a)
  pub second_small : IsBelow value_limit (n *ℤ number_of numbers b)
  pub sum_small : IsBelow value_limit ((m *ℤ number_of numbers a) +ℤ (n *ℤ number_of numbers b))

-- number a can be divided by d
pub record Tightens (c : Column) (numbers : List ℤ) (a : ℕ) (d : ℤ) : Type 0 where
  pub stands : a < length numbers
  pub positive : pos 0 <ℤ d
  pub divides : CanDivide c (unsigned_abs d) (number_of numbers a)

-- the step has what it needs in this column
abbrev pub IsSound : Column → List Claim → List ℤ → RowStep → Type 0
IsSound c claims numbers (Given at) = IsRow (slice_get claims at)
IsSound c claims numbers (Reversed at) = IsEquation (slice_get claims at)
IsSound c claims numbers (Combine a m b n) = AddsUp numbers a m b n
IsSound c claims numbers (Tighten a d) = Tightens c numbers a d

-- ---- all steps

-- the numbers with those that the steps make after them
abbrev pub numbers_made : Column → List Claim → List ℤ → List RowStep → List ℤ
numbers_made c claims numbers [] = numbers
numbers_made c claims numbers (step ∷ steps) = numbers_made c claims (numbers ++ number_made c claims numbers step ∷ []) steps

-- each step has what it needs in this column
abbrev pub AreSound : Column → List Claim → List ℤ → List RowStep → Type 0
AreSound c claims numbers [] = Unit {0}
AreSound c claims numbers (step ∷ steps) = IsSound c claims numbers step × AreSound c claims (numbers ++ number_made c claims numbers step ∷ []) steps

-- ---- the columns of variables

-- the variable is gone in the last row
abbrev pub Vanishes : List Claim → List RowStep → ℕ → Type 0
Vanishes claims steps v = AreSound (Coefficient v) claims [] steps × (last_number (numbers_made (Coefficient v) claims [] steps) ≡ pos 0)

-- each variable of the products is gone in the last row
abbrev pub EachVanishes : List Claim → List RowStep → List (ℕ × ℤ) → Type 0
EachVanishes claims steps [] = Unit {0}
EachVanishes claims steps (p ∷ ps) = Vanishes claims steps p.0 × EachVanishes claims steps ps

-- the term that a step takes from the claims, if it takes one
abbrev pub cited : List Claim → RowStep → List (ℕ × ℤ)
cited claims (Given at) = (term_of (slice_get claims at)).pairs
cited claims (Reversed at) = (term_of (slice_get claims at)).pairs
cited claims (Combine a m b n) = []
cited claims (Tighten a d) = []

-- each variable that some of these steps take from the claims is gone in the last row of all steps
abbrev pub CitedVanish : List Claim → List RowStep → List RowStep → Type 0
CitedVanish claims steps [] = Unit {0}
CitedVanish claims steps (step ∷ rest) = EachVanishes claims steps (cited claims step) × CitedVanish claims steps rest
