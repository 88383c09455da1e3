-- The first item of a list that isn't passed over.
use Rattle.std.specs.Prelude.{◌⊎◌, List, [], ◌∷◌}

-- the items before one are passed over, and this is so of it
abbrev pub First : {A : Type 0} → (A → Type 0) → (A → Type 0) → List A → Type 0
First Passed Found [] = ⊥
First Passed Found (x ∷ xs) = Found x ⊎ (Passed x × First Passed Found xs)
