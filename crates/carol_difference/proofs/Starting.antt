-- The forest of one walk of no edges a node.
use Rattle.std.proofs.Common.{◌≡◌, ℕ, ◌+◌, ◌^◌, ◌<◌, List, [], ◌∷◌, ◌++◌, length, refl, sym, subst, ap, ◌∙◌, inl, inr, arith}
use Rattle.std.specs.Prelude.{pos, slice_index}
use Rattle.std.proofs.lemmas.Bool.{cases_eq}
use Rattle.std.proofs.lemmas.List.{get_or_append_left, get_or_push, length_push}
use Rattle.carol_difference.specs.declared.paths.Edge.{Edge}
use Rattle.carol_difference.specs.declared.forest.Entry.{Entry}
use Rattle.carol_difference.specs.Forest.{entry_at, IsEntry, IsForest, IsShallow, IsLatest}

-- the walk of no edges to a node
abbrev pub root_of : ℕ → Entry
root_of node = record { total = pos 0; edge = 0; parent = 0; node = node; depth = 0 }

-- the walks of no edges to the first nodes, each the latest of its node
pub record IsStart (count : ℕ) (entries : List Entry) (latest : List ℕ) : Type 0 where
  pub entries_count : length entries ≡ count
  pub latest_count : length latest ≡ count
  pub roots : (k : ℕ) → k < count → entry_at entries k ≡ root_of k
  pub own : (k : ℕ) → k < count → slice_index latest k ≡ k

-- the walk to one node more
pub IsStart-push : (count : ℕ) (entries : List Entry) (latest : List ℕ) → IsStart count entries latest → IsStart (count + 1) (entries ++ root_of count ∷ []) (latest ++ count ∷ [])
IsStart-push count entries latest it = record {
  entries_count = omega (arith, length_push entries (root_of count), it.entries_count);
  latest_count = omega (arith, length_push latest count, it.latest_count);
  roots = λ k h. elim (cases_eq k count) [
    | inl same ↦ subst (λ (n : ℕ). entry_at (entries ++ root_of count ∷ []) k ≡ root_of n) (sym same) (get_or_push entries (root_of count) _ k (it.entries_count ∙ sym same))
    | inr other ↦ get_or_append_left entries (root_of count ∷ []) _ k (omega (arith, h, other, it.entries_count)) ∙ it.roots k (omega (arith, h, other))
  ];
  own = λ k h. elim (cases_eq k count) [
    | inl same ↦ get_or_push latest count 0 k (it.latest_count ∙ sym same) ∙ sym same
    | inr other ↦ get_or_append_left latest (count ∷ []) 0 k (omega (arith, h, other, it.latest_count)) ∙ it.own k (omega (arith, h, other))
  ];
}

root_right : (nodes : ℕ) (edges : List Edge) (entries : List Entry) (k : ℕ) → k < nodes → IsEntry nodes edges entries k (root_of k)
root_right nodes edges entries k h = record {
  node = h;
  root = λ _. refl;
  parent = λ deep. absurd (omega (arith, deep));
  grown = λ deep. absurd (omega (arith, deep));
  within = λ bound weights. omega arith;
}

-- the walks of no edges to all nodes are a forest
pub start_forest : (nodes : ℕ) (edges : List Edge) (entries : List Entry) (latest : List ℕ) → nodes < 2 ^ 32 → IsStart nodes entries latest → IsForest nodes edges entries latest
start_forest nodes edges entries latest few it =
    let count : length entries ≡ nodes = it.entries_count in
    record {
      count = it.latest_count;
      small = omega (arith, count, few);
      right = λ k h. let below : k < nodes = omega (arith, h, count) in
          subst (IsEntry nodes edges entries k) (sym (it.roots k below)) (root_right nodes edges entries k below);
      falls = λ j k below h same.
          let k_in : k < nodes = omega (arith, h, count) in
          let j_in : j < nodes = omega (arith, below, k_in) in
          let j_node : (entry_at entries j).node ≡ j = ap (λ (x : Entry). x.node) (it.roots j j_in) in
          let k_node : (entry_at entries k).node ≡ k = ap (λ (x : Entry). x.node) (it.roots k k_in) in
          absurd (omega (arith, below, same, j_node, k_node));
      last = λ node h.
          subst (IsLatest entries node) (sym (it.own node h)) (record {
            known = omega (arith, h, count);
            its_node = ap (λ (x : Entry). x.node) (it.roots node h);
          });
      newest = λ k h. let below : k < nodes = omega (arith, h, count) in
          let node : (entry_at entries k).node ≡ k = ap (λ (x : Entry). x.node) (it.roots k below) in
          let own : slice_index latest (entry_at entries k).node ≡ k = subst (λ (n : ℕ). slice_index latest n ≡ k) (sym node) (it.own k below) in
          omega (arith, own);
    }

pub start_shallow : (nodes : ℕ) (entries : List Entry) (latest : List ℕ) → IsStart nodes entries latest → IsShallow nodes entries
start_shallow nodes entries latest it k h =
    let below : k < nodes = omega (arith, h, it.entries_count) in
    let depth : (entry_at entries k).depth ≡ 0 = ap (λ (x : Entry). x.depth) (it.roots k below) in
    omega (arith, depth, below)
