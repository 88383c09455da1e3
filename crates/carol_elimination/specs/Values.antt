-- Values of the variables, chosen from the last variable to the first.
use Rattle.std.specs.Prelude.{ℕ, ◌≡◌, ◌≢◌, ◌≤◌, List, [], ◌∷◌, ℤ, pos, ◌≤ℤ◌, unsigned_abs}
use Rattle.carol_formula.specs.Linear.{Linear}
use Rattle.carol_formula.specs.Value.{value_at, set_at}
use Rattle.carol_elimination.specs.Stage.{Among, factor_of, next}

-- the row is true of the numbers
abbrev pub IsTrueRow : (ℕ → ℤ) → Linear → Type 0
IsTrueRow f r = value_at r f ≤ℤ pos 0

abbrev pub AreTrueRows : (ℕ → ℤ) → List Linear → Type 0
AreTrueRows f rows = (r : Linear) → Among r rows → IsTrueRow f r

-- each row with the variable is true where the variable is z
abbrev pub Allow : ℕ → List Linear → (ℕ → ℤ) → ℤ → Type 0
Allow x rows f z = (r : Linear) → Among r rows → factor_of x r ≢ pos 0 → IsTrueRow (set_at x z f) r

-- w is at most as far from 0 as z, and not the negative one of two that are as far
pub record IsNearer (w z : ℤ) : Type 0 where
  pub near : unsigned_abs w ≤ unsigned_abs z
  pub tie : unsigned_abs w ≡ unsigned_abs z → z ≤ℤ w

-- the variable's number is the whole number of least absolute value that the rows allow, and the positive
-- one at a tie
pub record IsChosen (x : ℕ) (rows : List Linear) (f : ℕ → ℤ) : Type 0 where
  pub allowed : Allow x rows f (f x)
  pub nearest : (z : ℤ) → Allow x rows f z → IsNearer (f x) z

-- each variable's number is chosen so at its stage
abbrev pub AreChosen : List ℕ → List Linear → (ℕ → ℤ) → Type 0
AreChosen [] rows f = Unit {0}
AreChosen (x ∷ xs) rows f = IsChosen x rows f × AreChosen xs (next x rows) f
