-- How large formulas are.
use Rattle.std.specs.Prelude.{ℕ, ◌+◌, ◌<◌, ◌^◌}
use Rattle.carol_formula.specs.Linear.{Linear}
use Rattle.carol_formula.specs.Weight.{weight}
use Rattle.carol_formula.specs.Claim.{Claim, True, False, Le, Eq, Ne, And, Or, Not, EachTerm}

-- how many nodes a formula has, a comparison counted as one
abbrev pub nodes_of : Claim → ℕ
nodes_of True = 1
nodes_of False = 1
nodes_of (Le t) = 1
nodes_of (Eq t) = 1
nodes_of (Ne t) = 1
nodes_of (And a b) = nodes_of a + nodes_of b + 1
nodes_of (Or a b) = nodes_of a + nodes_of b + 1
nodes_of (Not a) = nodes_of a + 1

-- the limit of the weight of a light term, with room for what a denial adds
abbrev pub light_limit : ℕ
light_limit = 2 ^ 89

abbrev pub IsLightTerm : Linear → Type 0
IsLightTerm t = weight t < light_limit

-- no term weighs much, so that the formula and its denial are narrow
abbrev pub IsLight : Claim → Type 0
IsLight c = EachTerm IsLightTerm c
