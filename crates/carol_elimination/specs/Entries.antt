-- The rows that were made so far, each with the step that made it, and lists of their numbers.
use Rattle.std.specs.Prelude.{ℕ, ◌≡◌, ◌<◌, ◌≤◌, List, [], ◌∷◌, length, map}
use Rattle.carol_formula.specs.Linear.{Linear}
use Rattle.carol_formula.specs.declared.term.Row.{Row}
use Rattle.carol_cert.specs.declared.step.RowStep.{RowStep}
use Rattle.carol_elimination.specs.Derived.{row_at, made, IsDeriving}

-- the terms of the code's rows
abbrev pub terms_of : List Row → List Linear
terms_of rows = map (λ r. r.0) rows

-- the rows without the steps
abbrev pub rows_of : List (RowStep × Linear) → List Linear
rows_of entries = map (λ e. e.1) entries

-- the steps without the rows
abbrev pub steps_of : List (RowStep × Linear) → List RowStep
steps_of entries = map (λ e. e.0) entries

-- the row with a number
abbrev pub row_in : List (RowStep × Linear) → ℕ → Linear
row_in entries k = row_at (rows_of entries) k

-- each number is that of a row
abbrev pub AreInside : List (RowStep × Linear) → List ℕ → Type 0
AreInside entries [] = Unit {0}
AreInside entries (k ∷ ks) = (k < length entries) × AreInside entries ks

-- the rows with the numbers
abbrev pub rows_in : List (RowStep × Linear) → List ℕ → List Linear
rows_in entries ks = map (row_in entries) ks

-- rows were added after the others
pub record Grow (old new : List (RowStep × Linear)) : Type 0 where
  pub longer : length old ≤ length new
  pub same : (k : ℕ) → k < length old → row_in new k ≡ row_in old k

-- the step makes the row of the given rows and of the rows so far
pub record IsMade (given : List Linear) (entries : List (RowStep × Linear)) (step : RowStep) (row : Linear) : Type 0 where
  pub deriving_ : IsDeriving given (rows_of entries) step
  pub is : row ≡ made given (rows_of entries) step
