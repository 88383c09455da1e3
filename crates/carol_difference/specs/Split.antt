-- The variables of a row of differences.
use Rattle.std.specs.Prelude.{◌≡◌, ℕ, ◌==◌, if◌then◌else◌, List, Option, Some, None, ℤ, pos, ◌-ℤ◌}
use Rattle.carol_formula.specs.Linear.{coefficient_of}
use Rattle.carol_formula.specs.Value.{sum_at}

-- how often a variable stands in another, or in none
abbrev pub unit_of : Option ℕ → ℕ → ℤ
unit_of None v = pos 0
unit_of (Some w) v = if v == w then pos 1 else pos 0

-- the number of a variable, which is 0 where there is none
abbrev pub number_of : Option ℕ → (ℕ → ℤ) → ℤ
number_of None f = pos 0
number_of (Some v) f = f v

-- the products are one variable minus another, either of which may be absent
pub record IsSplit (pairs : List (ℕ × ℤ)) (plus minus : Option ℕ) : Type 0 where
  pub coefficient : (v : ℕ) → coefficient_of v pairs ≡ unit_of plus v -ℤ unit_of minus v
  pub value : (f : ℕ → ℤ) → sum_at pairs f ≡ number_of plus f -ℤ number_of minus f
