-- Rows as plain data: the claim that a sum of products and a constant is at most 0.
use Rattle.std.specs.Prelude.{ℕ, ◌≡◌, List, [], ◌∷◌, ℤ, pos, ◌+ℤ◌, ◌*ℤ◌, ◌<ℤ◌, neg_ℤ}
use Rattle.carol_formula.specs.Bounds.{IsBelow, value_limit}
use Rattle.carol_formula.specs.Linear.{Linear, coefficient_of}
use Rattle.carol_formula.specs.Division.{floor_of, ceiling_of}

-- the coefficient of each variable, and the constant
pub record PlainRow : Type 0 where
  pub coefficient : ℕ → ℤ
  pub rest : ℤ

-- the claim that a term is at most 0
abbrev pub row_of : Linear → PlainRow
row_of t = record { coefficient = λ v. coefficient_of v t.pairs; rest = t.rest }

-- ---- arithmetic

abbrev pub negated : PlainRow → PlainRow
negated r = record { coefficient = λ v. neg_ℤ (r.coefficient v); rest = neg_ℤ r.rest }

abbrev pub multiple : ℤ → PlainRow → PlainRow
multiple m r = record { coefficient = λ v. m *ℤ r.coefficient v; rest = m *ℤ r.rest }

abbrev pub sum_of_rows : PlainRow → PlainRow → PlainRow
sum_of_rows r s = record { coefficient = λ v. r.coefficient v +ℤ s.coefficient v; rest = r.rest +ℤ s.rest }

-- `t <= c`, with c the constant on the right, as `t/d <= floor(c/d)`
abbrev pub quotient : ℕ → PlainRow → PlainRow
quotient d r = record { coefficient = λ v. floor_of (r.coefficient v) d; rest = ceiling_of r.rest d }

-- ---- facts

-- each coefficient and the constant are below 2 ^ 126 in absolute value
pub record IsSmall (r : PlainRow) : Type 0 where
  pub coefficients : (v : ℕ) → IsBelow value_limit (r.coefficient v)
  pub constant : IsBelow value_limit r.rest

-- it says `0 <= c`, with c below 0
pub record IsAbsurd (r : PlainRow) : Type 0 where
  pub no_variable : (v : ℕ) → r.coefficient v ≡ pos 0
  pub positive : pos 0 <ℤ r.rest

-- `0 <= 0`
abbrev pub zero_row : PlainRow
zero_row = record { coefficient = λ v. pos 0; rest = pos 0 }

-- the last of the rows, and `0 <= 0` where there is none
abbrev pub last_row : List PlainRow → PlainRow
last_row [] = zero_row
last_row (r ∷ []) = r
last_row (r ∷ s ∷ rows) = last_row (s ∷ rows)
