-- How large formulas of places grow: no number in them is wide, and they have few nodes.
use Rattle.std.specs.Prelude.{ℕ, ◌+◌, ◌*◌, ◌^◌, ◌<◌, ◌≤◌, Bool, true, false, max, List, [], ◌∷◌, length}
use Rattle.carol_program.specs.declared.steps.Part.{Part}
use Rattle.carol_formula.specs.Claim.{Claim}
use Rattle.carol_formula.specs.Weight.{weight}
use Rattle.carol_program.specs.Limits.{most_cells}
use Rattle.carol_program.specs.Bodies.{Body, Query, Issue, Release, Branch, Return}
use Rattle.carol_formula.specs.Size.{nodes_of, IsLight}

-- the formula and its denial can be decided
pub record IsDecidable (c : Claim) : Type 0 where
  pub light : IsLight c
  pub few : nodes_of c ≤ 65535

-- what the invariant of a round adds at the most, with the rows of the flags of its store; so does a
-- guard with those of its query's store
abbrev pub round_nodes : ℕ
round_nodes = 257 + 4 * 16

abbrev pub test_nodes : ℕ
test_nodes = 258

-- a round with a query ends, and its invariant is then known
abbrev pub reserve : Bool → ℕ
reserve true = round_nodes
reserve false = 0

-- what a body may yet add to what is known
abbrev pub cost : Body → ℕ
cost (Query number guard slot next) = round_nodes + round_nodes + cost next
cost (Issue number parts next) = cost next
cost (Release number next) = cost next
cost (Branch number test first second) = test_nodes + max (cost first) (cost second)
cost (Return number value) = 0

-- what may be known at the most
abbrev pub most_known : ℕ
most_known = 50000

-- the limit of the weight of a term that a program has
abbrev pub amount_limit : ℕ
amount_limit = 2 ^ 50

abbrev pub AreLightParts : List Part → Type 0
AreLightParts [] = Unit {0}
AreLightParts (part ∷ parts) = (weight part.amount < amount_limit) × AreLightParts parts

-- the parts of an issue are light, and there is at most one for each cell
pub record AreSmallParts (parts : List Part) : Type 0 where
  pub light : AreLightParts parts
  pub few : length parts ≤ most_cells
