-- Rows that are derived from a list of rows by elimination alone, and the steps that make them.
use Rattle.std.specs.Prelude.{ℕ, ◌≡◌, ◌≢◌, ◌<◌, true, List, [], ◌∷◌, ◌++◌, length, map, slice_index_or, ℤ, pos, unsigned_abs}
use Rattle.carol_formula.specs.Bounds.{term_limit}
use Rattle.carol_formula.specs.Linear.{Linear, IsWithin, constant_of, scaled, sum_of}
use Rattle.carol_cert.specs.declared.step.RowStep.{RowStep}
use Rattle.carol_cert.specs.declared.step.RowStep.TheVariants.{Given, Reversed, Combine, Tighten}
use Rattle.carol_elimination.specs.Tightened.{content, divided}
use Rattle.carol_elimination.specs.Stage.{factor_of, is_upper, is_lower, multiplier}

-- the row with a number, and `0 <= 0` where there is none
abbrev pub row_at : List Linear → ℕ → Linear
row_at rows a = slice_index_or rows a (constant_of (pos 0))

-- the row has the variable, and none below it
pub record IsLowest (x : ℕ) (r : Linear) : Type 0 where
  pub stands : factor_of x r ≢ pos 0
  pub lowest : (v : ℕ) → v < x → factor_of v r ≡ pos 0

-- the variable is the lowest of both rows, of which the first bounds it above and the second below
pub record IsPair (x : ℕ) (u l : Linear) : Type 0 where
  pub first : IsLowest x u
  pub second : IsLowest x l
  pub upper : is_upper x u ≡ true
  pub lower : is_lower x l ≡ true

-- the row that a step makes of the given rows and of the rows before it
abbrev pub made : List Linear → List Linear → RowStep → Linear
made given rows (Given at) = row_at given at
made given rows (Reversed at) = constant_of (pos 0)
made given rows (Combine a m b n) = sum_of (scaled m (row_at rows a)) (scaled n (row_at rows b))
made given rows (Tighten a d) = divided (unsigned_abs d) (row_at rows a)

-- m times the first row and n times the second are their least combination that cancels the lowest variable
-- of both, and no product and no sum of it reaches 2 ^ 100
pub record IsLeastSum (u : Linear) (m : ℤ) (l : Linear) (n : ℤ) : Type 0 where
  pub variable : ℕ
  pub pair : IsPair variable u l
  pub first : m ≡ multiplier (factor_of variable u) (factor_of variable l)
  pub second : n ≡ multiplier (factor_of variable l) (factor_of variable u)
  pub first_narrow : IsWithin term_limit (scaled m u)
  pub second_narrow : IsWithin term_limit (scaled n l)
  pub sum_narrow : IsWithin term_limit (sum_of (scaled m u) (scaled n l))

-- the step takes a given row, makes the least combination of two rows, or divides a row by the greatest
-- common divisor of its coefficients
abbrev pub IsDeriving : List Linear → List Linear → RowStep → Type 0
IsDeriving given rows (Given at) = at < length given
IsDeriving given rows (Reversed at) = ⊥
IsDeriving given rows (Combine a m b n) = (a < length rows) × (b < length rows) × IsLeastSum (row_at rows a) m (row_at rows b) n
IsDeriving given rows (Tighten a d) = (a < length rows) × (d ≡ pos (content (row_at rows a).pairs)) × (content (row_at rows a).pairs ≢ 0)

-- each step makes its row of the rows before it
abbrev pub Derive : List Linear → List (RowStep × Linear) → List (RowStep × Linear) → Type 0
Derive given before [] = Unit {0}
Derive given before (e ∷ es) = IsDeriving given (map (λ d. d.1) before) e.0 × (e.1 ≡ made given (map (λ d. d.1) before) e.0) × Derive given (before ++ e ∷ []) es

-- the steps make the rows with their numbers of the given rows
abbrev pub AreDerived : List Linear → List (RowStep × Linear) → Type 0
AreDerived given entries = Derive given [] entries
