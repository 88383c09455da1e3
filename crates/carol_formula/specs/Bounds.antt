-- Bounds on whole numbers, by their absolute value.
use Rattle.std.specs.Prelude.{ℕ, ◌<◌, ◌≤◌, ◌^◌, ℤ, unsigned_abs}

-- z is below the limit in absolute value
abbrev pub IsBelow : ℕ → ℤ → Type 0
IsBelow limit z = unsigned_abs z < limit

-- each number is at most the bound in absolute value
abbrev pub AreNear : ℕ → (ℕ → ℤ) → Type 0
AreNear bound f = (v : ℕ) → unsigned_abs (f v) ≤ bound

-- the limit of each coefficient and constant of a narrow formula
abbrev pub narrow_limit : ℕ
narrow_limit = 2 ^ 90

-- the limit of each coefficient and constant of a row that is decided
abbrev pub row_limit : ℕ
row_limit = 2 ^ 92

-- the limit of each coefficient and constant of a term
abbrev pub term_limit : ℕ
term_limit = 2 ^ 100

-- the limit of each product and each sum on the way to a term's value
abbrev pub value_limit : ℕ
value_limit = 2 ^ 126
