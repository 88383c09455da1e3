-- Sets of kinds of tokens, as lists of numbers.
use Rattle.std.specs.Prelude.{ℕ, Bool, true, false, not, eqb, ◌&&◌, ◌||◌, List, [], ◌∷◌}

abbrev pub has : List ℕ → ℕ → Bool
has [] k = false
has (j ∷ js) k = eqb k j || has js k

-- each of the first is in the second
abbrev pub within : List ℕ → List ℕ → Bool
within [] ks = true
within (j ∷ js) ks = has ks j && within js ks

-- none of the first is in the second
abbrev pub apart : List ℕ → List ℕ → Bool
apart [] ks = true
apart (j ∷ js) ks = not (has ks j) && apart js ks
