-- Which variables the rows of a list have.
use Rattle.std.specs.Prelude.{ℕ, ◌≡◌, ◌+◌, ◌≤◌, ◌⊎◌, List, [], ◌∷◌, pos}
use Rattle.carol_formula.specs.Linear.{Linear}
use Rattle.carol_elimination.specs.Stage.{Among, factor_of}

-- no row has the variable
abbrev pub IsFree : ℕ → List Linear → Type 0
IsFree v rows = (r : Linear) → Among r rows → factor_of v r ≡ pos 0

-- the number stands in the list
abbrev pub IsIn : ℕ → List ℕ → Type 0
IsIn v [] = ⊥
IsIn v (w ∷ ws) = (v ≡ w) ⊎ IsIn v ws

-- each variable of the rows stands in the list
abbrev pub Cover : List ℕ → List Linear → Type 0
Cover vs rows = (v : ℕ) → IsFree v rows ⊎ IsIn v vs

-- the numbers ascend, and none is below `low`
abbrev pub Ascend : ℕ → List ℕ → Type 0
Ascend low [] = Unit {0}
Ascend low (v ∷ vs) = (low ≤ v) × Ascend (v + 1) vs
