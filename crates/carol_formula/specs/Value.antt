-- What a term is worth, where each variable has a number.
use Rattle.std.specs.Prelude.{ℕ, List, [], ◌∷◌, ℤ, pos, ◌+ℤ◌, ◌*ℤ◌, ◌==◌, if◌then◌else◌}
use Rattle.carol_formula.specs.Bounds.{IsBelow, value_limit}
use Rattle.carol_formula.specs.Linear.{Linear}

-- the sum of the products
abbrev pub sum_at : List (ℕ × ℤ) → (ℕ → ℤ) → ℤ
sum_at [] f = pos 0
sum_at (p ∷ ps) f = (p.1 *ℤ f p.0) +ℤ sum_at ps f

abbrev pub value_at : Linear → (ℕ → ℤ) → ℤ
value_at t f = sum_at t.pairs f +ℤ t.rest

-- f with another number at one variable
abbrev pub set_at : ℕ → ℤ → (ℕ → ℤ) → ℕ → ℤ
set_at v number f w = if w == v then number else f w

-- each further product, and each sum with the products before it, is below the limit; so is the
-- whole sum
abbrev pub SumFits : ℕ → ℤ → List (ℕ × ℤ) → ℤ → (ℕ → ℤ) → Type 0
SumFits limit before [] rest f = IsBelow limit (before +ℤ rest)
SumFits limit before (p ∷ ps) rest f = IsBelow limit (p.1 *ℤ f p.0) × IsBelow limit (before +ℤ (p.1 *ℤ f p.0)) × SumFits limit (before +ℤ (p.1 *ℤ f p.0)) ps rest f

-- the term can be added up at f in ascending order, its constant last, below the limit all the way
abbrev pub FitsWithin : ℕ → Linear → (ℕ → ℤ) → Type 0
FitsWithin limit t f = SumFits limit (pos 0) t.pairs t.rest f

abbrev pub Fits : Linear → (ℕ → ℤ) → Type 0
Fits t f = FitsWithin value_limit t f
