-- What a valuation is: numbers of some variables, ascending. Any other variable is 0.
use Rattle.std.specs.Prelude.{ℕ, ◌==◌, nat_lt, if◌then◌else◌, List, [], ◌∷◌, ℤ, pos}

abbrev pub number_at : List (ℕ × ℤ) → ℕ → ℤ
number_at [] v = pos 0
number_at (p ∷ ps) v = if v == p.0 then p.1 else number_at ps v

-- the list with the number at the variable
abbrev pub with_number : ℕ → ℤ → List (ℕ × ℤ) → List (ℕ × ℤ)
with_number v number [] = (v, number) ∷ []
with_number v number (p ∷ ps) = if nat_lt v p.0 then ((v, number) ∷ p ∷ ps) else if v == p.0 then ((v, number) ∷ ps) else (p ∷ with_number v number ps)
