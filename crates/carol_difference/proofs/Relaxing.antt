-- What a look at one edge reads, and what follows of the sum that it makes.
use Rattle.std.proofs.Common.{◌≡◌, ℕ, ◌+◌, ◌*◌, ◌^◌, ◌<◌, ◌≤◌, true, false, List, length, get_or, refl, sym, subst, ap, ◌∙◌, arith}
use Rattle.std.specs.Prelude.{ℤ, ◌+ℤ◌, ◌<ℤ◌, ◌≤ℤ◌, unsigned_abs, slice_index, FitsSigned}
use Rattle.std.specs.Int.{w128}
use Rattle.std.specs.Int.Signed.{le_z}
use Rattle.std.specs.List.{All}
use mir.Val.{to_z, of_z}
use Rattle.std.proofs.lemmas.Int.{ints, to_z-of_z, fits_signed_from_abs}
use Rattle.std.proofs.lemmas.List.{get_or_read}
use Rattle.carol_difference.specs.declared.paths.Edge.{Edge}
use Rattle.carol_difference.specs.declared.forest.Entry.{Entry}
use Rattle.carol_difference.specs.Edges.{HasEnds, IsWithin, edge_at}
use Rattle.carol_difference.specs.Forest.{entry_at, IsForest, IsLighter, IsShallow, total_at}

-- the entry that was read is the latest of the node
pub record ReadsLatest (entries : List Entry) (latest : List ℕ) (node number : ℕ) (e : Entry) : Type 0 where
  pub number_is : number ≡ slice_index latest node
  pub entry_is : e ≡ entry_at entries number
  pub known : number < length entries

pub reads_latest : (nodes : ℕ) (edges : List Edge) (entries : List Entry) (latest : List ℕ) (node number : ℕ) (e : Entry) → IsForest nodes edges entries latest → node < nodes → number ≡ get_or latest node number → e ≡ get_or entries number e → ReadsLatest entries latest node number e
reads_latest nodes edges entries latest node number e forest below numbered read =
    let number_is : number ≡ slice_index latest node = get_or_read latest node number (subst (λ (n : ℕ). node < n) (sym forest.count) below) numbered 0 in
    let known : number < length entries = subst (λ (n : ℕ). n < length entries) (sym number_is) (forest.last node below).known in
    record { number_is = number_is; entry_is = get_or_read entries number e known read _; known = known }

-- the total of what was read
pub read_total : (entries : List Entry) (latest : List ℕ) (node number : ℕ) (e : Entry) → ReadsLatest entries latest node number e → e.total ≡ total_at entries latest node
read_total entries latest node number e it =
    ap (λ (x : Entry). x.total) it.entry_is ∙ ap (λ (i : ℕ). (entry_at entries i).total) it.number_is

-- how deep what was read is, and how far its total is from 0
pub read_depth : (nodes : ℕ) (entries : List Entry) (latest : List ℕ) (node number : ℕ) (e : Entry) → IsShallow nodes entries → ReadsLatest entries latest node number e → e.depth < nodes
read_depth nodes entries latest node number e shallow it =
    subst (λ (x : Entry). x.depth < nodes) (sym it.entry_is) (shallow number it.known)

pub read_within : (nodes : ℕ) (edges : List Edge) (entries : List Entry) (latest : List ℕ) (node number : ℕ) (e : Entry) (bound : ℕ) → IsForest nodes edges entries latest → All (IsWithin bound) edges → ReadsLatest entries latest node number e → unsigned_abs e.total ≤ e.depth * bound
read_within nodes edges entries latest node number e bound forest weights it =
    subst (λ (x : Entry). unsigned_abs x.total ≤ x.depth * bound) (sym it.entry_is) ((forest.right number it.known).within bound weights)

abs-fits : (a : ℤ) (depth : ℕ) → unsigned_abs a ≤ depth * 2 ^ 92 → depth < 2 ^ 32 → FitsSigned w128 a
abs-fits a depth within below =
    fits_signed_from_abs w128 a (omega (arith, within))

-- the sum that the code makes
pub sum_fits : (a b : ℤ) (depth : ℕ) → unsigned_abs a ≤ depth * 2 ^ 92 → depth < 2 ^ 32 → unsigned_abs b ≤ 2 ^ 92 → FitsSigned w128 (to_z w128 (of_z w128 a) +ℤ to_z w128 (of_z w128 b))
sum_fits a b depth within below weight =
    let a_fits : FitsSigned w128 a = abs-fits a depth within below in
    let b_fits : FitsSigned w128 b = fits_signed_from_abs w128 b (omega (arith, weight)) in
    rw (to_z-of_z w128 a a_fits, to_z-of_z w128 b b_fits) (fits_signed_from_abs w128 (a +ℤ b) (omega (arith, ints, within, weight)))

pub sum_is : (a b : ℤ) (depth : ℕ) → unsigned_abs a ≤ depth * 2 ^ 92 → depth < 2 ^ 32 → unsigned_abs b ≤ 2 ^ 92 → to_z w128 (of_z w128 (to_z w128 (of_z w128 a) +ℤ to_z w128 (of_z w128 b))) ≡ a +ℤ b
sum_is a b depth within below weight =
    let a_fits : FitsSigned w128 a = abs-fits a depth within below in
    let b_fits : FitsSigned w128 b = fits_signed_from_abs w128 b (omega (arith, weight)) in
    to_z-of_z w128 _ (sum_fits a b depth within below weight) ∙ rw (to_z-of_z w128 a a_fits, to_z-of_z w128 b b_fits) refl

-- a total that fits is read as it is
pub total_is : (a : ℤ) (depth : ℕ) → unsigned_abs a ≤ depth * 2 ^ 92 → depth < 2 ^ 32 → to_z w128 (of_z w128 a) ≡ a
total_is a depth within below = to_z-of_z w128 a (abs-fits a depth within below)

-- what the code makes of the walk to the edge's start and the edge: their sum, one deeper
pub record Extends (nodes : ℕ) (edges : List Edge) (entries : List Entry) (latest : List ℕ) (number parent : ℕ) (from : Entry) : Type 0 where
  pub node : (edge_at edges number).to < nodes
  pub known : parent < length entries
  pub from_is : from ≡ entry_at entries parent
  pub start : from.node ≡ (edge_at edges number).from
  pub depth : from.depth < nodes
  pub fits : FitsSigned w128 (to_z w128 (of_z w128 from.total) +ℤ to_z w128 (of_z w128 (edge_at edges number).weight))
  pub sum : to_z w128 (of_z w128 (to_z w128 (of_z w128 from.total) +ℤ to_z w128 (of_z w128 (edge_at edges number).weight))) ≡ from.total +ℤ (edge_at edges number).weight
  pub total : from.total ≡ total_at entries latest (edge_at edges number).from

pub extends : (nodes : ℕ) (edges : List Edge) (entries : List Entry) (latest : List ℕ) (number parent : ℕ) (from : Entry) → nodes < 2 ^ 32 → All (HasEnds nodes) edges → All (IsWithin (2 ^ 92)) edges → number < length edges → IsForest nodes edges entries latest → IsShallow nodes entries → parent ≡ get_or latest (edge_at edges number).from parent → from ≡ get_or entries parent from → Extends nodes edges entries latest number parent from
extends nodes edges entries latest number parent from few ends weights known forest shallow numbered read =
    let edge = edge_at edges number in
    let ends_in = ends number _ known in
    let weight : unsigned_abs edge.weight ≤ 2 ^ 92 = weights number _ known in
    let it = reads_latest nodes edges entries latest edge.from parent from forest ends_in.0 numbered read in
    let depth = read_depth nodes entries latest edge.from parent from shallow it in
    let within = read_within nodes edges entries latest edge.from parent from (2 ^ 92) forest weights it in
    let below : from.depth < 2 ^ 32 = omega (arith, depth, few) in
    record {
      node = ends_in.1;
      known = it.known;
      from_is = it.entry_is;
      start = ap (λ (x : Entry). x.node) it.entry_is ∙ ap (λ (i : ℕ). (entry_at entries i).node) it.number_is ∙ (forest.last edge.from ends_in.0).its_node;
      depth = depth;
      fits = sum_fits from.total edge.weight from.depth within below weight;
      sum = sum_is from.total edge.weight from.depth within below weight;
      total = read_total entries latest edge.from parent from it;
    }

-- the total of the latest walk to the edge's end, as the code reads it
pub end_total : (nodes : ℕ) (edges : List Edge) (entries : List Entry) (latest : List ℕ) (node number : ℕ) (e : Entry) → nodes < 2 ^ 32 → All (IsWithin (2 ^ 92)) edges → IsForest nodes edges entries latest → IsShallow nodes entries → node < nodes → number ≡ get_or latest node number → e ≡ get_or entries number e → to_z w128 (of_z w128 e.total) ≡ total_at entries latest node
end_total nodes edges entries latest node number e few weights forest shallow below numbered read =
    let it = reads_latest nodes edges entries latest node number e forest below numbered read in
    let depth = read_depth nodes entries latest node number e shallow it in
    let within = read_within nodes edges entries latest node number e (2 ^ 92) forest weights it in
    total_is e.total e.depth within (omega (arith, depth, few)) ∙ read_total entries latest node number e it

-- where the latest walk to the edge's end is no heavier, the totals meet the edge
pub met : (a b t u from w : ℤ) → le_z a b ≡ true → a ≡ t → b ≡ from +ℤ w → from ≡ u → t ≤ℤ (u +ℤ w)
met a b t u from w test a_is b_is from_is =
    rw (← a_is, ← from_is, ← b_is) (omega (arith, ints, test))

-- where it is heavier, the walk through the edge is a lighter one
pub lighter : (nodes : ℕ) (edges : List Edge) (entries : List Entry) (latest : List ℕ) (number parent : ℕ) (from : Entry) (old new : ℤ) → number < length edges → Extends nodes edges entries latest number parent from → old ≡ total_at entries latest (edge_at edges number).to → new ≡ from.total +ℤ (edge_at edges number).weight → le_z old new ≡ false → IsLighter nodes edges entries latest (record { total = new; edge = number; parent = parent; node = (edge_at edges number).to; depth = from.depth + 1 })
lighter nodes edges entries latest number parent from old new known it old_is new_is heavier = record {
  node = it.node;
  parent = it.known;
  grown = record {
    edge = known;
    from = sym it.start ∙ ap (λ (x : Entry). x.node) it.from_is;
    to = refl;
    depth = ap (λ (x : Entry). x.depth + 1) it.from_is;
    total = new_is ∙ ap (λ (x : Entry). x.total +ℤ (edge_at edges number).weight) it.from_is;
  };
  total = subst (λ (t : ℤ). new <ℤ t) old_is (omega (arith, ints, heavier));
  depth = omega (arith, it.depth);
}
