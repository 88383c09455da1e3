-- The whole numbers that the rows of a stage allow for a variable, where the later variables have numbers.
use Rattle.std.specs.Prelude.{ℕ, ◌≡◌, ◌↔◌, true, Option, None, Some, IfSome, List, ℤ, pos, ◌+ℤ◌, ◌≤ℤ◌, ◌<ℤ◌}
use Rattle.carol_formula.specs.Bounds.{IsBelow, term_limit}
use Rattle.carol_formula.specs.Linear.{Linear}
use Rattle.carol_formula.specs.Value.{value_at, set_at}
use Rattle.carol_elimination.specs.Stage.{Among, is_upper, is_lower}
use Rattle.carol_elimination.specs.Values.{IsTrueRow, IsNearer}
use Rattle.carol_elimination.specs.declared.bounds.Bounds.{Bounds}

-- z is at most the bound, if there is one
abbrev pub IsAtMost : Option ℤ → ℤ → Type 0
IsAtMost None z = Unit {0}
IsAtMost (Some high) z = z ≤ℤ high

-- z is at least the bound, if there is one
abbrev pub IsAtLeast : Option ℤ → ℤ → Type 0
IsAtLeast None z = Unit {0}
IsAtLeast (Some low) z = low ≤ℤ z

-- each row that bounds the variable above, or below, is true where the variable is z
abbrev pub AllowAbove : ℕ → List Linear → (ℕ → ℤ) → ℤ → Type 0
AllowAbove x rows f z = (r : Linear) → Among r rows → is_upper x r ≡ true → IsTrueRow (set_at x z f) r

abbrev pub AllowBelow : ℕ → List Linear → (ℕ → ℤ) → ℤ → Type 0
AllowBelow x rows f z = (r : Linear) → Among r rows → is_lower x r ≡ true → IsTrueRow (set_at x z f) r

-- a row that bounds the variable below is false where the variable is z
pub record IsTooLow (x : ℕ) (rows : List Linear) (f : ℕ → ℤ) (z : ℤ) : Type 0 where
  pub row : Linear
  pub among : Among row rows
  pub lower : is_lower x row ≡ true
  pub positive : pos 0 <ℤ value_at row (set_at x z f)

-- the bounds are those of the rows, and no number of them reaches 2 ^ 100
pub record AreBounds (x : ℕ) (rows : List Linear) (f : ℕ → ℤ) (b : Bounds) : Type 0 where
  pub above : (z : ℤ) → AllowAbove x rows f z ↔ IsAtMost b.high z
  pub below : (z : ℤ) → AllowBelow x rows f z ↔ IsAtLeast b.low z
  pub tight : (k : ℤ) → b.low ≡ Some (k +ℤ pos 1) → IsTooLow x rows f k
  pub high_small : IfSome b.high (IsBelow term_limit)
  pub low_small : IfSome b.low (IsBelow term_limit)

-- w is between the bounds, and none between them is nearer to 0
pub record IsNearestWithin (b : Bounds) (w : ℤ) : Type 0 where
  pub high : IsAtMost b.high w
  pub low : IsAtLeast b.low w
  pub nearest : (z : ℤ) → IsAtMost b.high z → IsAtLeast b.low z → IsNearer w z

-- k + 1 is the low bound, and more than the high one
pub record IsBelowBoth (b : Bounds) (k : ℤ) : Type 0 where
  pub low : b.low ≡ Some (k +ℤ pos 1)
  pub high : ¬ IsAtMost b.high (k +ℤ pos 1)
