-- The totals of the latest walks, as a list, once they meet every edge.
use Rattle.std.proofs.Common.{◌≡◌, ℕ, ◌*◌, ◌<◌, ◌≤◌, List, length, get_or, map, sym, subst, ◌∙◌, arith}
use Rattle.std.specs.Prelude.{ℤ, pos, unsigned_abs, slice_index}
use Rattle.std.specs.List.{All}
use Rattle.std.proofs.Math.Nat.{mul-le-mul_right, le_trans}
use Rattle.std.proofs.lemmas.List.{get_or-map, length-map}
use Rattle.std.proofs.lemmas.List.Elements.{All-from_get_or}
use Rattle.carol_difference.specs.declared.paths.Edge.{Edge}
use Rattle.carol_difference.specs.declared.forest.Entry.{Entry}
use Rattle.carol_difference.specs.Edges.{HasEnds, IsWithin, Meets, IsPotential, value_in}
use Rattle.carol_difference.specs.Forest.{entry_at, IsForest, IsShallow, total_at}

-- the total of the entry with this number
abbrev pub total_of : List Entry → ℕ → ℤ
total_of entries k = (entry_at entries k).total

-- the totals of the latest walks to each node
abbrev pub totals_of : List Entry → List ℕ → List ℤ
totals_of entries latest = map (total_of entries) latest

totals-at : (nodes : ℕ) (edges : List Edge) (entries : List Entry) (latest : List ℕ) (node : ℕ) → IsForest nodes edges entries latest → node < nodes → value_in (totals_of entries latest) node ≡ total_at entries latest node
totals-at nodes edges entries latest node forest below =
    get_or-map (total_of entries) latest node 0 (pos 0) (subst (λ (n : ℕ). node < n) (sym forest.count) below)

-- the totals meet an edge as a list, where they meet it one by one
totals_meet : (nodes : ℕ) (edges : List Edge) (entries : List Entry) (latest : List ℕ) (e : Edge) → IsForest nodes edges entries latest → HasEnds nodes e → Meets (total_at entries latest) e → Meets (value_in (totals_of entries latest)) e
totals_meet nodes edges entries latest e forest ends meets =
    rw (totals-at nodes edges entries latest e.to forest ends.1, totals-at nodes edges entries latest e.from forest ends.0) meets

-- no total is further from 0 than the nodes' number times a bound of the weights
total_within : (nodes : ℕ) (edges : List Edge) (entries : List Entry) (latest : List ℕ) (bound node : ℕ) → IsForest nodes edges entries latest → IsShallow nodes entries → All (IsWithin bound) edges → node < nodes → unsigned_abs (total_at entries latest node) ≤ nodes * bound
total_within nodes edges entries latest bound node forest shallow weights below =
    let k = slice_index latest node in
    let known : k < length entries = (forest.last node below).known in
    let near : unsigned_abs (entry_at entries k).total ≤ (entry_at entries k).depth * bound = (forest.right k known).within bound weights in
    let fewer : (entry_at entries k).depth ≤ nodes = omega (arith, shallow k known) in
    le_trans near (mul-le-mul_right bound fewer)

pub totals_potential : (nodes : ℕ) (edges : List Edge) (entries : List Entry) (latest : List ℕ) → All (HasEnds nodes) edges → IsForest nodes edges entries latest → IsShallow nodes entries → All (Meets (total_at entries latest)) edges → IsPotential nodes edges (totals_of entries latest)
totals_potential nodes edges entries latest ends forest shallow meets = record {
  count = length-map latest (total_of entries) ∙ forest.count;
  meets = λ k d h. totals_meet nodes edges entries latest (get_or edges k d) forest (ends k d h) (meets k d h);
  within = λ bound weights. All-from_get_or (λ value. unsigned_abs value ≤ nodes * bound) (totals_of entries latest) (pos 0)
      (λ node h. let below : node < nodes = omega (arith, h, length-map latest (total_of entries), forest.count) in
      subst (λ (z : ℤ). unsigned_abs z ≤ nodes * bound) (sym (totals-at nodes edges entries latest node forest below)) (total_within nodes edges entries latest bound node forest shallow weights below));
}
