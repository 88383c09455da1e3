-- Numbers given to the nodes of a graph, and closed walks over its edges.
use Rattle.std.specs.Prelude.{◌≡◌, ℕ, ◌<◌, ◌≤◌, ◌*◌, ◌^◌, ℤ, pos, ◌+ℤ◌, ◌<ℤ◌, ◌≤ℤ◌, unsigned_abs, List, [], ◌∷◌, length, slice_index_or}
use Rattle.std.specs.List.{All}
use Rattle.carol_difference.specs.declared.paths.Edge.{Edge}
use Rattle.carol_difference.specs.declared.paths.Paths.{Paths}
use Rattle.carol_difference.specs.declared.paths.Paths.TheVariants.{Potentials, Cycle}

-- both ends of the edge are among the nodes
abbrev pub HasEnds : ℕ → Edge → Type 0
HasEnds nodes e = (e.from < nodes) × (e.to < nodes)

-- the weight is at most this far from 0
abbrev pub IsWithin : ℕ → Edge → Type 0
IsWithin bound e = unsigned_abs e.weight ≤ bound

-- the limit of the weights
abbrev pub weight_limit : ℕ
weight_limit = 2 ^ 92

-- the number at the edge's end is at most the number at its start and the weight
abbrev pub Meets : (ℕ → ℤ) → Edge → Type 0
Meets value e = value e.to ≤ℤ (value e.from +ℤ e.weight)

-- the number that a list, one number a node, gives to a node
abbrev pub value_in : List ℤ → ℕ → ℤ
value_in values node = slice_index_or values node (pos 0)

-- one number a node, which meet every edge and stay within the nodes' number times any bound of the
-- weights
pub record IsPotential (nodes : ℕ) (edges : List Edge) (values : List ℤ) : Type 0 where
  pub count : length values ≡ nodes
  pub meets : All (Meets (value_in values)) edges
  pub within : (bound : ℕ) → All (IsWithin bound) edges → All (λ value. unsigned_abs value ≤ nodes * bound) values

-- the edge with this number
abbrev pub edge_at : List Edge → ℕ → Edge
edge_at edges number = slice_index_or edges number (record { from = 0; to = 0; weight = pos 0 })

-- the numbered edges lead from one node to the other, each beginning where the one before it ends
abbrev pub IsWalk : List Edge → ℕ → List ℕ → ℕ → Type 0
IsWalk edges start [] end = start ≡ end
IsWalk edges start (n ∷ ns) end =
    (n < length edges) × ((edge_at edges n).from ≡ start) × IsWalk edges (edge_at edges n).to ns end

-- the sum of the numbered edges' weights
abbrev pub walk_weight : List Edge → List ℕ → ℤ
walk_weight edges [] = pos 0
walk_weight edges (n ∷ ns) = (edge_at edges n).weight +ℤ walk_weight edges ns

-- a closed walk of at most as many edges as there are nodes, whose weights sum below 0
pub record IsNegativeCycle (nodes : ℕ) (edges : List Edge) (numbers : List ℕ) : Type 0 where
  pub node : ℕ
  pub closed : IsWalk edges node numbers node
  pub negative : walk_weight edges numbers <ℤ pos 0
  pub short : length numbers ≤ nodes

-- no numbers whatsoever meet every edge
abbrev pub CannotBeMet : List Edge → Type 0
CannotBeMet edges = (value : ℕ → ℤ) → ¬ All (Meets value) edges

-- the answer is right
abbrev pub IsAnswer : ℕ → List Edge → Paths → Type 0
IsAnswer nodes edges (Potentials values) = IsPotential nodes edges values.items
IsAnswer nodes edges (Cycle numbers) = IsNegativeCycle nodes edges numbers.items × CannotBeMet edges
