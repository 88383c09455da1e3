-- Rows as edges: a node for each variable, and node 0 for zero.
use Rattle.std.specs.Prelude.{◌≡◌, ℕ, zero, suc, ◌+◌, ◌*◌, ◌<◌, ◌≤◌, List, length, Option, Some, None, slice_get, neg_ℤ}
use Rattle.std.specs.Ordering.{nat_cmp}
use Rattle.std.specs.BTreeMap.{BTreeMap, get}
use Rattle.carol_formula.specs.declared.Row.{Row}
use Rattle.carol_difference.specs.Edges.{edge_at}
use Rattle.carol_difference.specs.declared.paths.Edge.{Edge}
use Rattle.carol_difference.specs.Rows.{row_at}
use Rattle.carol_difference.specs.Split.{IsSplit}

-- the variable of a node
abbrev pub variable_at : List ℕ → ℕ → Option ℕ
variable_at variables zero = None
variable_at variables (suc k) = slice_get variables k

-- the numbers are those of the variables' nodes, each variable's one
pub record IsTable (numbers : BTreeMap ℕ ℕ) (variables : List ℕ) : Type 0 where
  pub known : (v node : ℕ) → get nat_cmp numbers v ≡ Some node → (node ≤ length variables) × (variable_at variables node ≡ Some v)
  pub named : (k v : ℕ) → slice_get variables k ≡ Some v → get nat_cmp numbers v ≡ Some (k + 1)

-- at most one variable more, after those that there were
pub record Grows (old new : List ℕ) : Type 0 where
  pub one : length new ≤ length old + 1
  pub longer : length old ≤ length new
  pub kept : (k : ℕ) → k < length old → slice_get new k ≡ slice_get old k

-- the edge asks what the row claims: the one variable is at most the other minus the constant
pub record IsEdgeOf (variables : List ℕ) (row : Row) (e : Edge) : Type 0 where
  pub from : e.from ≤ length variables
  pub to : e.to ≤ length variables
  pub split : IsSplit row.0.pairs (variable_at variables e.to) (variable_at variables e.from)
  pub weight : e.weight ≡ neg_ℤ row.0.rest

-- an edge for each of the first rows, in order
pub record IsGraph (rows : List Row) (count : ℕ) (numbers : BTreeMap ℕ ℕ) (variables : List ℕ) (edges : List Edge) : Type 0 where
  pub table : IsTable numbers variables
  pub few : length variables ≤ 2 * count
  pub as_many : length edges ≡ count
  pub each : (k : ℕ) → k < count → IsEdgeOf variables (row_at rows k) (edge_at edges k)
