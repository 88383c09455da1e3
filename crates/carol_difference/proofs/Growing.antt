-- The forest stays one when an entry is appended that is lighter than the latest of its node.
use Rattle.std.proofs.Common.{◌≡◌, ℕ, ◌+◌, ◌*◌, ◌^◌, ◌<◌, ◌≤◌, List, [], ◌∷◌, ◌++◌, length, set, refl, sym, subst, ◌∙◌, ◌⊎◌, inl, inr, arith}
use Rattle.std.proofs.Math.Nat.{lt_of_lt_of_le, lt_trans, le_of_lt, le_refl}
use Rattle.std.specs.Prelude.{ℤ, ◌+ℤ◌, ◌<ℤ◌, unsigned_abs, slice_index}
use Rattle.std.specs.List.{All}
use Rattle.std.proofs.lemmas.Int.{ints}
use Rattle.std.proofs.lemmas.List.{get_or_append_left, get_or_push, length_push, get_or-set_same, get_or-set_other, length-set}
use Rattle.std.proofs.lemmas.Bool.{cases_lt, cases_eq}
use Rattle.carol_difference.specs.declared.paths.Edge.{Edge}
use Rattle.carol_difference.specs.declared.forest.Entry.{Entry}
use Rattle.carol_difference.specs.Edges.{edge_at, IsWithin}
use Rattle.carol_difference.specs.Forest.{entry_at, IsGrown, IsEntry, IsLatest, IsForest, IsLighter, IsShallow, IsDeep, total_at}

abs-add : (a b : ℤ) → unsigned_abs (a +ℤ b) ≤ unsigned_abs a + unsigned_abs b
abs-add a b = omega (arith, ints)

lt_trans_z : (a b c : ℤ) → a <ℤ b → b <ℤ c → a <ℤ c
lt_trans_z a b c h g = omega (arith, ints)

-- an earlier entry stays where it is
pub entry_at-old : (entries : List Entry) (e : Entry) (k : ℕ) → k < length entries → entry_at (entries ++ e ∷ []) k ≡ entry_at entries k
entry_at-old entries e k h = get_or_append_left entries (e ∷ []) _ k h

-- the new entry is the last
pub entry_at-new : (entries : List Entry) (e : Entry) (k : ℕ) → k ≡ length entries → entry_at (entries ++ e ∷ []) k ≡ e
entry_at-new entries e k h = get_or_push entries e _ k (sym h)

old_or_new : (entries : List Entry) (e : Entry) (k : ℕ) → k < length (entries ++ e ∷ []) → (k < length entries) ⊎ (k ≡ length entries)
old_or_new entries e k h =
    elim (cases_lt k (length entries)) [
      | inl below ↦ inl below
      | inr above ↦ inr (omega (arith, length_push entries e))
    ]

-- what holds of an entry stays true when another is appended
IsEntry-push : (nodes : ℕ) (edges : List Edge) (entries : List Entry) (new : Entry) (k : ℕ) (e : Entry) → k ≤ length entries → IsEntry nodes edges entries k e → IsEntry nodes edges (entries ++ new ∷ []) k e
IsEntry-push nodes edges entries new k e within it = record {
  node = it.node;
  root = it.root;
  parent = it.parent;
  grown = λ deep.
      let below : e.parent < length entries = lt_of_lt_of_le (it.parent deep) within in
      subst (λ (p : Entry). IsGrown edges p e) (sym (entry_at-old entries new e.parent below)) (it.grown deep);
  within = it.within;
}

-- an entry grown by one edge keeps within its depth times any bound of the weights
grown-within : (edges : List Edge) (parent e : Entry) (bound : ℕ) → IsGrown edges parent e → All (IsWithin bound) edges → unsigned_abs parent.total ≤ parent.depth * bound → unsigned_abs e.total ≤ e.depth * bound
grown-within edges parent e bound grown weights within =
    let weight : unsigned_abs (edge_at edges e.edge).weight ≤ bound = weights e.edge _ grown.edge in
    let sum = abs-add parent.total (edge_at edges e.edge).weight in
    let product : (parent.depth + 1) * bound ≡ parent.depth * bound + bound = omega arith in
    rw (grown.total, grown.depth) (omega (arith, sum, weight, within, product))

-- the new entry is right
new_right : (nodes : ℕ) (edges : List Edge) (entries : List Entry) (latest : List ℕ) (e : Entry) → IsForest nodes edges entries latest → e.parent < length entries → IsGrown edges (entry_at entries e.parent) e → e.node < nodes → IsEntry nodes edges entries (length entries) e
new_right nodes edges entries latest e forest parent grown node = record {
  node = node;
  root = λ none. absurd (omega (arith, grown.depth));
  parent = λ _. parent;
  grown = λ _. grown;
  within = λ bound weights. grown-within edges (entry_at entries e.parent) e bound grown weights ((forest.right e.parent parent).within bound weights);
}

-- every earlier entry of the node is heavier than the new one
new_lighter : (nodes : ℕ) (edges : List Edge) (entries : List Entry) (latest : List ℕ) (e : Entry) (j : ℕ) → IsForest nodes edges entries latest → e.node < nodes → e.total <ℤ (total_at entries latest e.node) → j < length entries → (entry_at entries j).node ≡ e.node → e.total <ℤ (entry_at entries j).total
new_lighter nodes edges entries latest e j forest node lighter known same =
    let top = slice_index latest e.node in
    let upto : j ≤ top = subst (λ (n : ℕ). j ≤ slice_index latest n) same (forest.newest j known) in
    let it = forest.last e.node node in
    elim (cases_eq j top) [
      | inl same_number ↦ subst (λ (i : ℕ). e.total <ℤ (entry_at entries i).total) (sym same_number) lighter
      | inr other ↦ lt_trans_z e.total (entry_at entries top).total (entry_at entries j).total lighter (forest.falls j top (omega (arith, upto, other)) it.known (same ∙ sym it.its_node))
    ]

-- what holds of each earlier entry and of the new one holds of each
at_push : (entries : List Entry) (e : Entry) (P : ℕ → Entry → Type 0) → ((k : ℕ) → k < length entries → P k (entry_at entries k)) → P (length entries) e → (k : ℕ) → k < length (entries ++ e ∷ []) → P k (entry_at (entries ++ e ∷ []) k)
at_push entries e P old new k h =
    elim (old_or_new entries e k h) [
      | inl below ↦ subst (P k) (sym (entry_at-old entries e k below)) (old k below)
      | inr last ↦ subst (P k) (sym (entry_at-new entries e k last)) (subst (λ (i : ℕ). P i e) (sym last) new)
    ]

-- the totals of a node's entries fall, also up to the new entry
push_falls : (entries : List Entry) (e : Entry) → ((j k : ℕ) → j < k → k < length entries → (entry_at entries j).node ≡ (entry_at entries k).node → (entry_at entries k).total <ℤ (entry_at entries j).total) → ((j : ℕ) → j < length entries → (entry_at entries j).node ≡ e.node → e.total <ℤ (entry_at entries j).total) → (k : ℕ) → k < length (entries ++ e ∷ []) → (j : ℕ) → j < k → (entry_at (entries ++ e ∷ []) j).node ≡ (entry_at (entries ++ e ∷ []) k).node → (entry_at (entries ++ e ∷ []) k).total <ℤ (entry_at (entries ++ e ∷ []) j).total
push_falls entries e old new =
    at_push entries e (λ k x. (j : ℕ) → j < k → (entry_at (entries ++ e ∷ []) j).node ≡ x.node → x.total <ℤ (entry_at (entries ++ e ∷ []) j).total)
    (λ k h j below. subst (λ (y : Entry). y.node ≡ (entry_at entries k).node → (entry_at entries k).total <ℤ y.total) (sym (entry_at-old entries e j (lt_trans below h))) (old j k below h))
    (λ j below. subst (λ (y : Entry). y.node ≡ e.node → e.total <ℤ y.total) (sym (entry_at-old entries e j below)) (new j below))

-- the latest entry of each node, once the new one is its node's
push_last : (nodes : ℕ) (edges : List Edge) (entries : List Entry) (latest : List ℕ) (e : Entry) → IsForest nodes edges entries latest → e.node < nodes → (node : ℕ) → node < nodes → IsLatest (entries ++ e ∷ []) node (slice_index (set latest e.node (length entries)) node)
push_last nodes edges entries latest e forest its_node node h =
    elim (cases_eq node e.node) [
      | inl same ↦
          let set_there : slice_index (set latest e.node (length entries)) node ≡ length entries =
          subst (λ (n : ℕ). slice_index (set latest e.node (length entries)) n ≡ length entries) (sym same) (get_or-set_same latest e.node (length entries) 0 (subst (λ (n : ℕ). e.node < n) (sym forest.count) its_node)) in
          subst (IsLatest (entries ++ e ∷ []) node) (sym set_there) (record {
            known = omega (arith, length_push entries e);
            its_node = subst (λ (x : Entry). x.node ≡ node) (sym (entry_at-new entries e (length entries) refl)) (sym same);
          })
      | inr other ↦
          let it = forest.last node h in
          subst (IsLatest (entries ++ e ∷ []) node) (sym (get_or-set_other latest e.node node (length entries) 0 other)) (record {
            known = omega (arith, it.known, length_push entries e);
            its_node = subst (λ (x : Entry). x.node ≡ node) (sym (entry_at-old entries e (slice_index latest node) it.known)) it.its_node;
          })
    ]

-- no entry is newer than the latest of its node
push_newest : (nodes : ℕ) (edges : List Edge) (entries : List Entry) (latest : List ℕ) (e : Entry) → IsForest nodes edges entries latest → e.node < nodes → (k : ℕ) → k < length (entries ++ e ∷ []) → k ≤ slice_index (set latest e.node (length entries)) (entry_at (entries ++ e ∷ []) k).node
push_newest nodes edges entries latest e forest its_node =
    let there : slice_index (set latest e.node (length entries)) e.node ≡ length entries =
    get_or-set_same latest e.node (length entries) 0 (subst (λ (n : ℕ). e.node < n) (sym forest.count) its_node) in
    at_push entries e (λ k x. k ≤ slice_index (set latest e.node (length entries)) x.node)
    (λ k h. elim (cases_eq (entry_at entries k).node e.node) [
      | inl same ↦ subst (λ (n : ℕ). k ≤ slice_index (set latest e.node (length entries)) n) (sym same) (subst (λ (n : ℕ). k ≤ n) (sym there) (le_of_lt h))
      | inr other ↦ subst (λ (n : ℕ). k ≤ n) (sym (get_or-set_other latest e.node (entry_at entries k).node (length entries) 0 other)) (forest.newest k h)
    ])
    (subst (λ (n : ℕ). length entries ≤ n) (sym there) (le_refl _))

-- the forest with a lighter entry of a node appended
pub IsForest-push : (nodes : ℕ) (edges : List Edge) (entries : List Entry) (latest : List ℕ) (e : Entry) → IsForest nodes edges entries latest → IsLighter nodes edges entries latest e → length entries < 2 ^ 32 → IsForest nodes edges (entries ++ e ∷ []) (set latest e.node (length entries))
IsForest-push nodes edges entries latest e forest it small = record {
  count = length-set latest e.node (length entries) ∙ forest.count;
  small = omega (arith, length_push entries e);
  right = at_push entries e (IsEntry nodes edges (entries ++ e ∷ []))
      (λ k h. IsEntry-push nodes edges entries e k (entry_at entries k) (le_of_lt h) (forest.right k h))
      (IsEntry-push nodes edges entries e (length entries) e (le_refl _) (new_right nodes edges entries latest e forest it.parent it.grown it.node));
  falls = λ j k below h. push_falls entries e forest.falls (λ i known same. new_lighter nodes edges entries latest e i forest it.node it.total known same) k h j below;
  last = push_last nodes edges entries latest e forest it.node;
  newest = push_newest nodes edges entries latest e forest it.node;
}

-- no entry is deep, if the new one is not
pub IsShallow-push : (nodes : ℕ) (entries : List Entry) (e : Entry) → IsShallow nodes entries → e.depth < nodes → IsShallow nodes (entries ++ e ∷ [])
IsShallow-push nodes entries e shallow below = at_push entries e (λ _ x. x.depth < nodes) shallow below

-- the new entry is deep
pub IsDeep-push : (nodes : ℕ) (entries : List Entry) (e : Entry) → e.depth ≡ nodes → IsDeep nodes (entries ++ e ∷ [])
IsDeep-push nodes entries e deep = record {
  some = omega (arith, length_push entries e);
  last = λ k h. subst (λ (x : Entry). x.depth ≡ nodes) (sym (entry_at-new entries e k (omega (arith, length_push entries e)))) deep;
}
