-- How large the numbers of a term can grow while it is made.
use Rattle.std.specs.Prelude.{ℕ, ◌+◌, ◌*◌, ◌≤◌, ◌^◌, ℤ, unsigned_abs, Option, IfSome}
use Rattle.carol_formula.specs.Linear.{Linear, coefficient_of}

-- no coefficient and no constant is above the bound, in absolute value
pub record IsBounded (bound : ℕ) (t : Linear) : Type 0 where
  pub coefficients : (v : ℕ) → unsigned_abs (coefficient_of v t.pairs) ≤ bound
  pub constant : unsigned_abs t.rest ≤ bound

-- the largest number of a value
abbrev pub most_value : ℕ
most_value = 10 ^ 15

-- the largest number of a product: a literal times a value
abbrev pub most_product : ℕ
most_product = 10 ^ 27

-- the largest number of a term of 256 products
abbrev pub most_sum : ℕ
most_sum = 256 * 10 ^ 27
