-- The forest that the search grows: each entry is a walk to a node, made of its parent's walk and
-- one more edge.
use Rattle.std.specs.Prelude.{◌≡◌, ℕ, ◌+◌, ◌<◌, ◌≤◌, ◌*◌, ◌^◌, ℤ, pos, ◌+ℤ◌, ◌<ℤ◌, unsigned_abs, List, length, slice_index, slice_index_or}
use Rattle.std.specs.List.{All}
use Rattle.carol_difference.specs.declared.paths.Edge.{Edge}
use Rattle.carol_difference.specs.declared.forest.Entry.{Entry}
use Rattle.carol_difference.specs.declared.forest.Step.{Step}
use Rattle.carol_difference.specs.declared.forest.Step.TheVariants.{Kept, Lowered, Deep}
use Rattle.carol_difference.specs.Edges.{IsWithin, edge_at}

-- the entry with this number
abbrev pub entry_at : List Entry → ℕ → Entry
entry_at entries k =
    slice_index_or entries k (record { total = pos 0; edge = 0; parent = 0; node = 0; depth = 0 })

-- an entry is its parent and one more edge
pub record IsGrown (edges : List Edge) (parent child : Entry) : Type 0 where
  pub edge : child.edge < length edges
  pub from : (edge_at edges child.edge).from ≡ parent.node
  pub to : (edge_at edges child.edge).to ≡ child.node
  pub depth : child.depth ≡ parent.depth + 1
  pub total : child.total ≡ parent.total +ℤ (edge_at edges child.edge).weight

-- what holds of an entry with the number k
pub record IsEntry (nodes : ℕ) (edges : List Edge) (entries : List Entry) (k : ℕ) (e : Entry) : Type 0 where
  pub node : e.node < nodes
  pub root : e.depth ≡ 0 → e.total ≡ pos 0
  pub parent : 0 < e.depth → e.parent < k
  pub grown : 0 < e.depth → IsGrown edges (entry_at entries e.parent) e
  pub within : (bound : ℕ) → All (IsWithin bound) edges → unsigned_abs e.total ≤ e.depth * bound

-- the latest entry of a node is one of that node
pub record IsLatest (entries : List Entry) (node latest : ℕ) : Type 0 where
  pub known : latest < length entries
  pub its_node : (entry_at entries latest).node ≡ node

-- every entry is right, the totals of a node's entries fall, and `latest` has the last entry of
-- each node
pub record IsForest (nodes : ℕ) (edges : List Edge) (entries : List Entry) (latest : List ℕ) : Type 0 where
  pub count : length latest ≡ nodes
  pub small : length entries ≤ 2 ^ 32
  pub right : (k : ℕ) → k < length entries → IsEntry nodes edges entries k (entry_at entries k)
  pub falls : (j k : ℕ) → j < k → k < length entries → (entry_at entries j).node ≡ (entry_at entries k).node → (entry_at entries k).total <ℤ (entry_at entries j).total
  pub last : (node : ℕ) → node < nodes → IsLatest entries node (slice_index latest node)
  pub newest : (k : ℕ) → k < length entries → k ≤ slice_index latest (entry_at entries k).node

-- no entry's walk has as many edges as there are nodes
abbrev pub IsShallow : ℕ → List Entry → Type 0
IsShallow nodes entries = (k : ℕ) → k < length entries → (entry_at entries k).depth < nodes

-- the total of a node's latest entry
abbrev pub total_at : List Entry → List ℕ → ℕ → ℤ
total_at entries latest node = (entry_at entries (slice_index latest node)).total

-- an entry that is grown from one of these and is lighter than the latest of its node
pub record IsLighter (nodes : ℕ) (edges : List Edge) (entries : List Entry) (latest : List ℕ) (e : Entry) : Type 0 where
  pub node : e.node < nodes
  pub parent : e.parent < length entries
  pub grown : IsGrown edges (entry_at entries e.parent) e
  pub total : e.total <ℤ total_at entries latest e.node
  pub depth : e.depth ≤ nodes

-- the last entry's walk has as many edges as there are nodes
pub record IsDeep (nodes : ℕ) (entries : List Entry) : Type 0 where
  pub some : 0 < length entries
  pub last : (k : ℕ) → k + 1 ≡ length entries → (entry_at entries k).depth ≡ nodes

-- what a step leaves: the same totals, of which the fact is true; or more entries; or an entry deep
-- enough
abbrev pub Leaves : ℕ → List Edge → List Entry → List Entry → List ℕ → Type 0 → Step → Type 0
Leaves nodes edges old new latest fact Kept = IsForest nodes edges new latest × IsShallow nodes new × fact
Leaves nodes edges old new latest fact Lowered =
    IsForest nodes edges new latest × IsShallow nodes new × (length old < length new)
Leaves nodes edges old new latest fact Deep = IsForest nodes edges new latest × IsDeep nodes new
