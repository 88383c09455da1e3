-- Tracing the walk of a deep entry back until a node comes again.
use Rattle.std.proofs.Common.{◌≡◌, ℕ, ◌+◌, ◌-◌, ◌<◌, ◌≤◌, List, [], ◌∷◌, ◌++◌, length, get_or, set, drop, replicate, reverse, refl, sym, subst, ap, ◌∙◌, inl, inr, arith, Option, Some, None, cond}
use Rattle.std.specs.Prelude.{◌+ℤ◌, is_none}
use Rattle.std.specs.List.{count_by}
use Rattle.std.proofs.lemmas.Int.{ints}
use Rattle.std.proofs.lemmas.Bool.{cases_eq, cases_lt}
use Rattle.std.proofs.lemmas.List.{get_or-set_same, get_or-set_other, get_or-replicate, get_or_past, length-set, length-replicate, length-drop, length-reverse, length_push, drop-append-le, drop_at, get_or_read}
use Rattle.std.proofs.lemmas.List.Folds.{sum_by-replicate}
use Rattle.std.proofs.lemmas.List.Sums.{sum_by-set}
use Rattle.carol_difference.specs.declared.paths.Edge.{Edge}
use Rattle.carol_difference.specs.declared.forest.Entry.{Entry}
use Rattle.carol_difference.specs.Edges.{IsNegativeCycle, walk_weight}
use Rattle.carol_difference.specs.Forest.{entry_at, IsGrown, IsForest, IsDeep}
use Rattle.carol_difference.proofs.Walks.{IsTrail, IsTrail-push, walk_from_trail, walk_weight-push, walk_weight-reverse}

-- the node was passed: some newer entry of it is where the trail was this long
pub record WasPassed (edges : List Edge) (entries : List Entry) (trail : List ℕ) (at node start : ℕ) : Type 0 where
  pub number : ℕ
  pub newer : at < number
  pub known : number < length entries
  pub its_node : (entry_at entries number).node ≡ node
  pub within : start ≤ length trail
  pub back : IsTrail edges node (drop start trail) (entry_at entries at).node
  pub total : (entry_at entries number).total ≡ (entry_at entries at).total +ℤ walk_weight edges (drop start trail)

-- each node that was passed is marked once, and from a deep entry the way back is as long as there are nodes
pub record IsTrace (nodes : ℕ) (edges : List Edge) (entries : List Entry) (passed : List (Option ℕ)) (trail : List ℕ) (at : ℕ) : Type 0 where
  pub known : at < length entries
  pub width : length passed ≡ nodes
  pub left : count_by is_none passed + length trail ≡ nodes
  pub long : IsDeep nodes entries → length trail + (entry_at entries at).depth ≡ nodes
  pub marks : (node start : ℕ) → get_or passed node None ≡ Some start → WasPassed edges entries trail at node start

abbrev unpassed : Option ℕ
unpassed = None

none_passed : (nodes : ℕ) → count_by is_none (replicate nodes unpassed) ≡ nodes
none_passed nodes = omega (arith, sum_by-replicate (λ (x : Option ℕ). cond (is_none x) 1 0) nodes unpassed)

nowhere_passed : (nodes node start : ℕ) → get_or (replicate nodes unpassed) node None ≡ Some start → ⊥
nowhere_passed nodes node start e =
    elim (cases_lt node nodes) [
      | inl below ↦ let here = get_or-replicate nodes node unpassed None below in cc
      | inr past ↦ let here = get_or_past (replicate nodes unpassed) node None (omega (arith, past, length-replicate nodes unpassed)) in cc
    ]

pub trace_start : (nodes : ℕ) (edges : List Edge) (entries : List Entry) (at : ℕ) → 0 < length entries → at ≡ length entries - 1 → IsTrace nodes edges entries (replicate nodes unpassed) [] at
trace_start nodes edges entries at some last = record {
  known = omega (arith, some, last);
  width = length-replicate nodes unpassed;
  left = omega (arith, none_passed nodes);
  long = λ deep. let depth : (entry_at entries at).depth ≡ nodes = deep.last at (omega (arith, some, last)) in omega (arith, depth);
  marks = λ node start e. absurd (nowhere_passed nodes node start e);
}

-- to pass a node takes one from those that are left
count_by-pass : (passed : List (Option ℕ)) (node start : ℕ) → node < length passed → get_or passed node unpassed ≡ unpassed → count_by is_none (set passed node (Some start)) + 1 ≡ count_by is_none passed
count_by-pass passed node start below free =
    let f : Option ℕ → ℕ = λ x. cond (is_none x) 1 0 in
    let sum = sum_by-set f passed node (Some start) unpassed below in
    let one : f (get_or passed node unpassed) ≡ 1 = ap f free in
    omega (arith, sum, one)

-- a mark that stood before stands one entry further back
mark_kept : (nodes : ℕ) (edges : List Edge) (entries : List Entry) (trail : List ℕ) (at node start : ℕ) → at < length entries → (entry_at entries at).parent < at → IsGrown edges (entry_at entries (entry_at entries at).parent) (entry_at entries at) → WasPassed edges entries trail at node start → WasPassed edges entries (trail ++ (entry_at entries at).edge ∷ []) (entry_at entries at).parent node start
mark_kept nodes edges entries trail at node start known older grown mark =
    let edge = (entry_at entries at).edge in
    let longer : drop start (trail ++ edge ∷ []) ≡ drop start trail ++ edge ∷ [] = drop-append-le start trail (edge ∷ []) mark.within in
    record {
      number = mark.number;
      newer = omega (arith, older, mark.newer);
      known = mark.known;
      its_node = mark.its_node;
      within = omega (arith, mark.within, length_push trail edge);
      back = rw longer (subst (IsTrail edges node (drop start trail ++ edge ∷ [])) grown.from (IsTrail-push edges node (drop start trail) (entry_at entries at).node edge mark.back grown.edge grown.to));
      total = rw longer (omega (arith, ints, mark.total, grown.total, walk_weight-push edges (drop start trail) edge));
    }

-- the mark that the entry itself leaves
mark_new : (edges : List Edge) (entries : List Entry) (trail : List ℕ) (at : ℕ) → at < length entries → (entry_at entries at).parent < at → IsGrown edges (entry_at entries (entry_at entries at).parent) (entry_at entries at) → WasPassed edges entries (trail ++ (entry_at entries at).edge ∷ []) (entry_at entries at).parent (entry_at entries at).node (length trail)
mark_new edges entries trail at known older grown =
    let edge = (entry_at entries at).edge in
    let last : drop (length trail) (trail ++ edge ∷ []) ≡ edge ∷ [] = drop_at trail (edge ∷ []) (length trail) refl in
    record {
      number = at;
      newer = older;
      known = known;
      its_node = refl;
      within = omega (arith, length_push trail edge);
      back = rw last (grown.edge, grown.to, grown.from);
      total = rw last (omega (arith, ints, grown.total));
    }

pub trace_step : (nodes : ℕ) (edges : List Edge) (entries : List Entry) (latest : List ℕ) (passed : List (Option ℕ)) (trail : List ℕ) (at : ℕ) → IsForest nodes edges entries latest → IsTrace nodes edges entries passed trail at → get_or passed (entry_at entries at).node None ≡ unpassed → 0 < (entry_at entries at).depth → IsTrace nodes edges entries (set passed (entry_at entries at).node (Some (length trail))) (trail ++ (entry_at entries at).edge ∷ []) (entry_at entries at).parent
trace_step nodes edges entries latest passed trail at forest it free deep =
    let right = forest.right at it.known in
    let node : (entry_at entries at).node < length passed = subst (λ (n : ℕ). (entry_at entries at).node < n) (sym it.width) right.node in
    let one_less = count_by-pass passed (entry_at entries at).node (length trail) node free in
    let older = right.parent deep in
    let grown = right.grown deep in
    record {
      known = omega (arith, older, it.known);
      width = length-set passed (entry_at entries at).node (Some (length trail)) ∙ it.width;
      left = omega (arith, it.left, one_less, length_push trail (entry_at entries at).edge);
      long = λ is_deep. let long = it.long is_deep in omega (arith, long, length_push trail (entry_at entries at).edge, grown.depth);
      marks = λ place start e. elim (cases_eq place (entry_at entries at).node) [
        | inl same ↦
            let here = get_or-set_same passed (entry_at entries at).node (Some (length trail)) unpassed node in
            let its : start ≡ length trail = cc in
            subst (λ (n : ℕ). WasPassed edges entries (trail ++ (entry_at entries at).edge ∷ []) (entry_at entries at).parent n start) (sym same)
            (subst (WasPassed edges entries (trail ++ (entry_at entries at).edge ∷ []) (entry_at entries at).parent (entry_at entries at).node) (sym its) (mark_new edges entries trail at it.known older grown))
        | inr other ↦ mark_kept nodes edges entries trail at place start it.known older grown (it.marks place start (sym (get_or-set_other passed (entry_at entries at).node place (Some (length trail)) unpassed other) ∙ e))
      ];
    }

-- at a node that was passed before, the trail since then is a cycle
pub trace_cycle : (nodes : ℕ) (edges : List Edge) (entries : List Entry) (latest : List ℕ) (passed : List (Option ℕ)) (trail : List ℕ) (at start : ℕ) → IsForest nodes edges entries latest → IsTrace nodes edges entries passed trail at → get_or passed (entry_at entries at).node None ≡ Some start → IsNegativeCycle nodes edges (reverse (drop start trail))
trace_cycle nodes edges entries latest passed trail at start forest it again =
    let mark = it.marks (entry_at entries at).node start again in
    let falls = forest.falls at mark.number mark.newer mark.known (sym mark.its_node) in
    record {
      node = (entry_at entries at).node;
      closed = walk_from_trail edges (entry_at entries at).node (drop start trail) (entry_at entries at).node mark.back;
      negative = omega (arith, ints, falls, mark.total, walk_weight-reverse edges (drop start trail));
      short = omega (arith, length-reverse (drop start trail), length-drop start trail, it.left);
    }

-- what the code reads at the entry's node
pub read_passed : (nodes : ℕ) (edges : List Edge) (entries : List Entry) (latest : List ℕ) (passed : List (Option ℕ)) (trail : List ℕ) (at : ℕ) (e : Entry) (x : Option ℕ) → IsForest nodes edges entries latest → IsTrace nodes edges entries passed trail at → e ≡ entry_at entries at → x ≡ get_or passed e.node x → get_or passed (entry_at entries at).node None ≡ x
read_passed nodes edges entries latest passed trail at e x forest it is read =
    let node : (entry_at entries at).node < length passed = subst (λ (n : ℕ). (entry_at entries at).node < n) (sym it.width) (forest.right at it.known).node in
    let its : e.node ≡ (entry_at entries at).node = ap (λ (y : Entry). y.node) is in
    sym (get_or_read passed (entry_at entries at).node x node (subst (λ (n : ℕ). x ≡ get_or passed n x) its read) unpassed)
