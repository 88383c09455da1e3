-- Rows divided by the greatest common divisor of their coefficients. A row is a term, for the claim that
-- the term is at most 0.
use Rattle.std.specs.Prelude.{ℕ, zero, suc, ◌%◌, List, [], ◌∷◌, ℤ, unsigned_abs}
use Rattle.carol_formula.specs.Linear.{Linear}
use Rattle.carol_formula.specs.Division.{quotient_of}

-- Euclid's algorithm, in at most so many steps
abbrev pub divisor_within : ℕ → ℕ → ℕ → ℕ
divisor_within zero a b = a
divisor_within (suc n) a zero = a
divisor_within (suc n) a (suc b) = divisor_within n (suc b) (a % suc b)

-- the greatest common divisor of two numbers
abbrev pub divisor : ℕ → ℕ → ℕ
divisor a b = divisor_within (suc b) a b

-- the greatest common divisor of a number and the coefficients
abbrev pub content_with : ℕ → List (ℕ × ℤ) → ℕ
content_with g [] = g
content_with g (p ∷ ps) = content_with (divisor g (unsigned_abs p.1)) ps

-- the greatest common divisor of the coefficients, and 0 where there is none
abbrev pub content : List (ℕ × ℤ) → ℕ
content ps = content_with 0 ps

-- the row divided, where the divisor is above 0
abbrev pub divided : ℕ → Linear → Linear
divided zero t = t
divided (suc d) t = quotient_of (suc d) t

-- the row divided by the greatest common divisor of its coefficients: `t <= c` says that
-- `t/d <= floor(c/d)`. A row without variables stays as it is.
abbrev pub tightened : Linear → Linear
tightened t = divided (content t.pairs) t
