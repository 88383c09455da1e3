-- The table of nodes, and the graph that grows row by row.
use Rattle.std.proofs.Common.{◌≡◌, ◌≢◌, ℕ, zero, suc, ◌+◌, ◌<◌, ◌≤◌, Bool, true, false, cond, List, [], ◌∷◌, ◌++◌, length, refl, sym, subst, ap, ◌∙◌, inl, inr, arith, Option, Some, None}
use Rattle.std.specs.Prelude.{slice_get, ℤ, pos, neg_ℤ, ◌-ℤ◌, unsigned_abs, ◌^◌}
use Rattle.std.specs.Int.{w128}
use mir.Val.{to_z, of_z}
use Rattle.std.proofs.lemmas.Int.{ints}
use Rattle.std.specs.Ordering.{nat_cmp}
use Rattle.std.specs.BTreeMap.{BTreeMap, get, is_at}
use Rattle.std.proofs.lemmas.Bool.{cases_eq, cases_lt}
use Rattle.std.proofs.lemmas.Bool.Decides.{nat_tests}
use Rattle.std.proofs.lemmas.List.{length_push, get_or_append_left, get_or_push}
use Rattle.std.proofs.lemmas.Option.{slice_get_within}
use Rattle.carol_formula.specs.declared.Row.{Row}
use Rattle.carol_difference.specs.Edges.{edge_at}
use Rattle.carol_difference.specs.declared.paths.Edge.{Edge}
use Rattle.carol_difference.specs.Rows.{row_at}
use Rattle.carol_difference.specs.Split.{IsSplit}
use Rattle.carol_difference.specs.Evidence.{AreApart}
use Rattle.carol_difference.specs.Graph.{variable_at, IsTable, Grows, IsEdgeOf, IsGraph}

slice_get_kept : (xs : List ℕ) (x k : ℕ) → k < length xs → slice_get (xs ++ x ∷ []) k ≡ slice_get xs k
slice_get_kept [] x k h = absurd (omega (arith, h))
slice_get_kept (y ∷ ys) x zero h = refl
slice_get_kept (y ∷ ys) x (suc k) h = slice_get_kept ys x k (omega (arith, h))

slice_get_last : (xs : List ℕ) (x : ℕ) → slice_get (xs ++ x ∷ []) (length xs) ≡ Some x
slice_get_last [] x = refl
slice_get_last (y ∷ ys) x = slice_get_last ys x

pub Grows-push : (variables : List ℕ) (variable : ℕ) → Grows variables (variables ++ variable ∷ [])
Grows-push variables variable = record {
  one = omega (arith, length_push variables variable);
  longer = omega (arith, length_push variables variable);
  kept = slice_get_kept variables variable;
}

pub Grows-same : (variables : List ℕ) → Grows variables variables
Grows-same variables = record { one = omega arith; longer = omega arith; kept = λ k h. refl }

-- a node keeps its variable
pub variable_at-grows : (old new : List ℕ) (node : ℕ) → Grows old new → node ≤ length old → variable_at new node ≡ variable_at old node
variable_at-grows old new zero grows h = refl
variable_at-grows old new (suc k) grows h = grows.kept k (omega (arith, h))

pub variable_at-last : (variables : List ℕ) (variable node : ℕ) → node ≡ length (variables ++ variable ∷ []) → variable_at (variables ++ variable ∷ []) node ≡ Some variable
variable_at-last variables variable node is =
    let last : node ≡ suc (length variables) = omega (arith, is, length_push variables variable) in
    rw last (slice_get_last variables variable)

is_at-same : (v : ℕ) → is_at (nat_cmp v) v ≡ true
is_at-same v = grind (arith, nat_tests)

is_at-other : (v w : ℕ) → v ≢ w → is_at (nat_cmp v) w ≡ false
is_at-other v w apart = grind (arith, nat_tests)

none_some : (n : ℕ) → None ≡ Some n → ⊥
none_some n e = cc

-- the table with one variable more
pub table_push : (numbers new : BTreeMap ℕ ℕ) (variables : List ℕ) (variable node : ℕ) → IsTable numbers variables → get nat_cmp numbers variable ≡ None → node ≡ length (variables ++ variable ∷ []) → ((q : ℕ) → get nat_cmp new q ≡ cond (is_at (nat_cmp variable) q) (Some node) (get nat_cmp numbers q)) → IsTable new (variables ++ variable ∷ [])
table_push numbers new variables variable node table free node_is updates = record {
  known = λ v n e. elim (cases_eq variable v) [
    | inl same ↦
        let here : get nat_cmp new v ≡ Some node = updates v ∙ ap (λ (b : Bool). cond b (Some node) (get nat_cmp numbers v)) (ap (is_at (nat_cmp variable)) (sym same) ∙ is_at-same variable) in
        let its : n ≡ node = cc in
        (omega (arith, its, node_is), ap (variable_at (variables ++ variable ∷ [])) its ∙ variable_at-last variables variable node node_is ∙ ap Some same)
    | inr other ↦
        let before : get nat_cmp numbers v ≡ Some n = sym (ap (λ (b : Bool). cond b (Some node) (get nat_cmp numbers v)) (is_at-other variable v other)) ∙ sym (updates v) ∙ e in
        let it = table.known v n before in
        (omega (arith, it.0, length_push variables variable), variable_at-grows variables (variables ++ variable ∷ []) n (Grows-push variables variable) it.0 ∙ it.1)
  ];
  named = λ k v e. elim (cases_lt k (length variables)) [
    | inl below ↦
        let before : get nat_cmp numbers v ≡ Some (k + 1) = table.named k v (sym (slice_get_kept variables variable k below) ∙ e) in
        let other : variable ≢ v = λ same. none_some (k + 1) (sym free ∙ ap (get nat_cmp numbers) same ∙ before) in
        updates v ∙ ap (λ (b : Bool). cond b (Some node) (get nat_cmp numbers v)) (is_at-other variable v other) ∙ before
    | inr past ↦
        let within = slice_get_within (variables ++ variable ∷ []) k v e in
        let last : k ≡ length variables = omega (arith, within, past, length_push variables variable) in
        let found : Some v ≡ Some variable = sym e ∙ ap (slice_get (variables ++ variable ∷ [])) last ∙ slice_get_last variables variable in
        let same : variable ≡ v = cc in
        let its : node ≡ k + 1 = omega (arith, node_is, last, length_push variables variable) in
        updates v ∙ ap (λ (b : Bool). cond b (Some node) (get nat_cmp numbers v)) (ap (is_at (nat_cmp variable)) (sym same) ∙ is_at-same variable) ∙ ap Some its
  ];
}

-- an edge stays right when variables are added
IsEdgeOf-grows : (old new : List ℕ) (row : Row) (e : Edge) → Grows old new → IsEdgeOf old row e → IsEdgeOf new row e
IsEdgeOf-grows old new row e grows it = record {
  from = omega (arith, it.from, grows.longer);
  to = omega (arith, it.to, grows.longer);
  split = rw (variable_at-grows old new e.to grows it.to, variable_at-grows old new e.from grows it.from) it.split;
  weight = it.weight;
}

-- the graph of one row more
pub graph_push : (rows : List Row) (count : ℕ) (numbers numbers' : BTreeMap ℕ ℕ) (first second third : List ℕ) (edges : List Edge) (plus minus : Option ℕ) (e : Edge) → IsGraph rows count numbers first edges → IsTable numbers' third → Grows first second → Grows second third → e.to ≤ length second → variable_at second e.to ≡ plus → e.from ≤ length third → variable_at third e.from ≡ minus → IsSplit (row_at rows count).0.pairs plus minus → e.weight ≡ neg_ℤ (row_at rows count).0.rest → IsGraph rows (count + 1) numbers' third (edges ++ e ∷ [])
graph_push rows count numbers numbers' first second third edges plus minus e graph table one two to to_is from from_is split weight = record {
  table = table;
  few = omega (arith, graph.few, one.one, two.one);
  as_many = omega (arith, graph.as_many, length_push edges e);
  each = λ k h. elim (cases_eq k count) [
    | inl same ↦
        let its : IsEdgeOf third (row_at rows count) e = record {
          from = from;
          to = omega (arith, to, two.longer);
          split = rw (variable_at-grows second third e.to two to, to_is, from_is) split;
          weight = weight;
        } in
        subst (λ (x : Edge). IsEdgeOf third (row_at rows k) x) (sym (get_or_push edges e _ k (graph.as_many ∙ sym same)))
        (subst (λ (n : ℕ). IsEdgeOf third (row_at rows n) e) (sym same) its)
    | inr other ↦
        let below : k < count = omega (arith, h, other) in
        subst (λ (x : Edge). IsEdgeOf third (row_at rows k) x) (sym (get_or_append_left edges (e ∷ []) _ k (omega (arith, below, graph.as_many))))
        (IsEdgeOf-grows second third (row_at rows k) (edge_at edges k) two (IsEdgeOf-grows first second (row_at rows k) (edge_at edges k) one (graph.each k below)))
  ];
}

-- the negated constant of a row, as the code computes it
pub weight_is : (rest : ℤ) → unsigned_abs rest < 2 ^ 92 → to_z w128 (of_z w128 (pos 0 -ℤ to_z w128 (of_z w128 rest))) ≡ neg_ℤ rest
weight_is rest near = omega (arith, ints, near)

-- no variable has two nodes
pub table_apart : (numbers : BTreeMap ℕ ℕ) (variables : List ℕ) → IsTable numbers variables → AreApart variables
table_apart numbers variables table j k v first second =
    let one = table.named j v first in
    let other = table.named k v second in
    let same : Some (j + 1) ≡ Some (k + 1) = sym one ∙ other in
    let sum : j + 1 ≡ k + 1 = cc in
    omega (arith, sum)
