-- How heavy a term is. Sums and multiples are no heavier than their parts, whatever cancels, and
-- what is light has no large coefficient and no large value.
use Rattle.std.specs.Prelude.{ℕ, ◌+◌, List, [], ◌∷◌, ℤ, unsigned_abs}
use Rattle.carol_formula.specs.Linear.{Linear}

-- the sum of the coefficients' absolute values
abbrev pub mass : List (ℕ × ℤ) → ℕ
mass [] = 0
mass (p ∷ ps) = unsigned_abs p.1 + mass ps

-- the same with the constant
abbrev pub weight : Linear → ℕ
weight t = mass t.pairs + unsigned_abs t.rest
