-- The rows of a negative cycle, added up one after another, end in an absurd row.
use Rattle.std.proofs.Common.{◌≡◌, ℕ, ◌+◌, ◌*◌, ◌^◌, ◌<◌, ◌≤◌, List, [], ◌∷◌, ◌++◌, length, refl, sym, subst, ap, ◌∙◌, arith, Option, Some, None}
use Rattle.std.specs.Prelude.{slice_get, pos, ◌+ℤ◌, ◌-ℤ◌, ◌*ℤ◌, ◌<ℤ◌, unsigned_abs}
use Rattle.std.specs.List.{All}
use Rattle.std.specs.BTreeMap.{BTreeMap}
use Rattle.std.specs.Option.{option_map}
use Rattle.std.proofs.lemmas.Bool.Decides.{nat_tests}
use Rattle.std.proofs.lemmas.Int.{ints}
use Rattle.std.proofs.lemmas.List.{length_push, get_or_append_left, get_or_push}
use Rattle.std.proofs.lemmas.Option.{slice_get-map, slice_get-get_or}
use Rattle.carol_formula.specs.Claim.{Claim, Le}
use Rattle.carol_formula.specs.declared.Row.{Row}
use Rattle.carol_cert.specs.PlainRow.{PlainRow, row_of, multiple, sum_of_rows, IsSmall, IsAbsurd, zero_row, last_row}
use Rattle.carol_cert.specs.Steps.{IsRow, term_of, row_at as made_at, made, CanCombine, IsAllowed, rows_made, AreAllowed, Closes}
use Rattle.carol_cert.specs.declared.RowStep.TheVariants.{Given, Combine}
use Rattle.carol_difference.specs.Edges.{edge_at, IsWalk, walk_weight, IsNegativeCycle}
use Rattle.carol_difference.specs.declared.paths.Edge.{Edge}
use Rattle.carol_formula.specs.Bounds.{row_limit}
use Rattle.carol_difference.specs.Rows.{row_at, IsNarrow, claim_of_row, claims_of}
use Rattle.carol_difference.specs.Split.{unit_of}
use Rattle.carol_difference.specs.Graph.{variable_at, IsEdgeOf, IsGraph}
use Rattle.carol_difference.specs.Evidence.{more_steps, sum_steps}

-- ---- rows in a list

last_row-push : (rows : List PlainRow) (r : PlainRow) → last_row (rows ++ r ∷ []) ≡ r
last_row-push [] r = refl
last_row-push (x ∷ []) r = refl
last_row-push (x ∷ y ∷ rows) r = last_row-push (y ∷ rows) r

-- the claim of a row with this number
claim_at : (rows : List Row) (n : ℕ) → n < length rows → slice_get (claims_of rows) n ≡ Some (Le (row_at rows n).0)
claim_at rows n h = slice_get-map claim_of_row rows n ∙ ap (option_map claim_of_row) (slice_get-get_or rows n _ h)

-- the row that is taken from there
given_row : (rows : List Row) (made_rows : List PlainRow) (n : ℕ) → n < length rows → made (claims_of rows) made_rows (Given n) ≡ row_of (row_at rows n).0
given_row rows made_rows n h = ap (λ (o : Option Claim). row_of (term_of o)) (claim_at rows n h)

given_allowed : (rows : List Row) (made_rows : List PlainRow) (n : ℕ) → n < length rows → IsAllowed (claims_of rows) made_rows (Given n)
given_allowed rows made_rows n h = subst IsRow (sym (claim_at rows n h)) tt

-- ---- sums of rows along a walk

-- one variable's node minus another's, and a constant within the bound
record IsSum (variables : List ℕ) (start end bound : ℕ) (r : PlainRow) : Type 0 where
  coefficient : (v : ℕ) → r.coefficient v ≡ unit_of (variable_at variables end) v -ℤ unit_of (variable_at variables start) v
  rest : unsigned_abs r.rest ≤ bound

unit_small : (o : Option ℕ) (v : ℕ) → unsigned_abs (unit_of o v) ≤ 1
unit_small None v = omega arith
unit_small (Some w) v = grind (arith, nat_tests)

sum_small : (variables : List ℕ) (start end bound : ℕ) (r : PlainRow) → IsSum variables start end bound r → bound < 2 ^ 126 → IsSmall (multiple (pos 1) r)
sum_small variables start end bound r sum below = record {
  coefficients = λ v. let c = sum.coefficient v in
      let s = unit_small (variable_at variables start) v in
      let e = unit_small (variable_at variables end) v in
      omega (arith, ints, c, s, e);
  constant = omega (arith, ints, sum.rest, below);
}

-- the row of an edge
edge_sum : (variables : List ℕ) (row : Row) (e : Edge) → IsEdgeOf variables row e → unsigned_abs row.0.rest ≤ row_limit → IsSum variables e.from e.to row_limit (row_of row.0)
edge_sum variables row e is narrow = record { coefficient = is.split.coefficient; rest = narrow }

-- a row more, where it begins at the end
joined_sum : (variables : List ℕ) (start middle middle' end bound bound' : ℕ) (r s : PlainRow) → IsSum variables start middle bound r → IsSum variables middle' end bound' s → middle' ≡ middle → IsSum variables start end (bound + bound') (sum_of_rows (multiple (pos 1) r) (multiple (pos 1) s))
joined_sum variables start middle middle' end bound bound' r s first second same = record {
  coefficient = λ v.
      let a = first.coefficient v in
      let b = second.coefficient v in
      let m = ap (λ (n : ℕ). unit_of (variable_at variables n) v) same in
      omega (arith, ints, a, b, m);
  rest = omega (arith, ints, first.rest, second.rest);
}

-- where a sum leads round and its constant is above 0, it is absurd
round_absurd : (variables : List ℕ) (start end bound : ℕ) (r : PlainRow) → IsSum variables start end bound r → end ≡ start → pos 0 <ℤ r.rest → IsAbsurd r
round_absurd variables start end bound r sum same positive = record {
  no_variable = λ v.
      let c = sum.coefficient v in
      let m = ap (λ (n : ℕ). unit_of (variable_at variables n) v) same in
      omega (arith, ints, c, m);
  positive = positive;
}

-- ---- all steps

-- a row that is taken once stays small
plain_small : (variables : List ℕ) (start end bound : ℕ) (r : PlainRow) → IsSum variables start end bound r → bound < 2 ^ 126 → IsSmall r
plain_small variables start end bound r sum below = record {
  coefficients = λ v. let c = sum.coefficient v in
      let s = unit_small (variable_at variables start) v in
      let e = unit_small (variable_at variables end) v in
      omega (arith, ints, c, s, e);
  constant = omega (arith, sum.rest, below);
}

-- the two rows at the end of a list
at_first : (before : List PlainRow) (r g : PlainRow) (last : ℕ) → length before ≡ last → made_at (before ++ r ∷ [] ++ g ∷ []) last ≡ r
at_first before r g last place =
    get_or_append_left (before ++ r ∷ []) (g ∷ []) zero_row last (omega (arith, place, length_push before r)) ∙ get_or_push before r zero_row last place

at_second : (before : List PlainRow) (r g : PlainRow) (last : ℕ) → length before ≡ last → made_at (before ++ r ∷ [] ++ g ∷ []) (last + 1) ≡ g
at_second before r g last place =
    get_or_push (before ++ r ∷ []) g zero_row (last + 1) (omega (arith, place, length_push before r))

-- the last two rows can be added
can_join : (variables : List ℕ) (before : List PlainRow) (r g : PlainRow) (last start middle middle' end bound bound' : ℕ) → length before ≡ last → IsSum variables start middle bound r → IsSum variables middle' end bound' g → middle' ≡ middle → bound + bound' < 2 ^ 126 → CanCombine (before ++ r ∷ [] ++ g ∷ []) last (pos 1) (last + 1) (pos 1)
can_join variables before r g last start middle middle' end bound bound' place first second same below =
    let at_r = at_first before r g last place in
    let at_g = at_second before r g last place in
    let long = length_push before r in
    let longer = length_push (before ++ r ∷ []) g in
    record {
      first_stands = omega (arith, place, long, longer);
      second_stands = omega (arith, place, long, longer);
      first_positive = omega (arith, ints);
      second_positive = omega (arith, ints);
      first_small = subst (λ (x : PlainRow). IsSmall (multiple (pos 1) x)) (sym at_r) (sum_small variables start middle bound r first (omega (arith, below)));
      second_small = subst (λ (x : PlainRow). IsSmall (multiple (pos 1) x)) (sym at_g) (sum_small variables middle' end bound' g second (omega (arith, below)));
      sum_small = subst (λ (x : PlainRow). IsSmall (sum_of_rows (multiple (pos 1) x) (multiple (pos 1) (made_at (before ++ r ∷ [] ++ g ∷ []) (last + 1))))) (sym at_r)
          (subst (λ (x : PlainRow). IsSmall (sum_of_rows (multiple (pos 1) r) (multiple (pos 1) x))) (sym at_g)
          (plain_small variables start end (bound + bound') (sum_of_rows (multiple (pos 1) r) (multiple (pos 1) g)) (joined_sum variables start middle middle' end bound bound' r g first second same) below));
    }

-- what adding them makes
joined_is : (before : List PlainRow) (r g : PlainRow) (last : ℕ) → length before ≡ last → sum_of_rows (multiple (pos 1) (made_at (before ++ r ∷ [] ++ g ∷ []) last)) (multiple (pos 1) (made_at (before ++ r ∷ [] ++ g ∷ []) (last + 1))) ≡ sum_of_rows (multiple (pos 1) r) (multiple (pos 1) g)
joined_is before r g last place =
    ap (λ (x : PlainRow). sum_of_rows (multiple (pos 1) x) (multiple (pos 1) (made_at (before ++ r ∷ [] ++ g ∷ []) (last + 1)))) (at_first before r g last place)
    ∙ ap (λ (x : PlainRow). sum_of_rows (multiple (pos 1) r) (multiple (pos 1) x)) (at_second before r g last place)

narrow_rest : (row : Row) → IsNarrow row → unsigned_abs row.0.rest ≤ row_limit
narrow_rest row narrow = omega (arith, narrow.constant)

-- what is left of the walk leads round to an absurd row
sums_close : (rows : List Row) (numbering : BTreeMap ℕ ℕ) (variables : List ℕ) (edges : List Edge) → IsGraph rows (length rows) numbering variables edges → All IsNarrow rows → (ns : List ℕ) (before : List PlainRow) (r : PlainRow) (last start end bound : ℕ) → length before ≡ last → IsSum variables start end bound r → IsWalk edges end ns start → bound + length ns * 2 ^ 92 < 2 ^ 126 → pos 0 <ℤ (r.rest -ℤ walk_weight edges ns) → AreAllowed (claims_of rows) (before ++ r ∷ []) (more_steps last ns) × IsAbsurd (last_row (rows_made (claims_of rows) (before ++ r ∷ []) (more_steps last ns)))
sums_close rows numbering variables edges graph narrow [] before r last start end bound place sum walk below positive =
    (tt, subst IsAbsurd (sym (last_row-push before r)) (round_absurd variables start end bound r sum walk (omega (arith, ints, positive))))
sums_close rows numbering variables edges graph narrow (n ∷ ns) before r last start end bound place sum walk below positive =
    let known : n < length rows = omega (arith, walk.0, graph.as_many) in
    let edge = edge_at edges n in
    let is = graph.each n known in
    let g : PlainRow = made (claims_of rows) (before ++ r ∷ []) (Given n) in
    let g_is : g ≡ row_of (row_at rows n).0 = given_row rows (before ++ r ∷ []) n known in
    let g_sum : IsSum variables edge.from edge.to row_limit g = subst (IsSum variables edge.from edge.to row_limit) (sym g_is) (edge_sum variables (row_at rows n) edge is (narrow_rest (row_at rows n) (narrow n _ known))) in
    let room : bound + row_limit < 2 ^ 126 = omega (arith, below) in
    let can = can_join variables before r g last start end edge.from edge.to bound row_limit place sum g_sum walk.1 room in
    let c : PlainRow = made (claims_of rows) (before ++ r ∷ [] ++ g ∷ []) (Combine last (pos 1) (last + 1) (pos 1)) in
    let c_is : c ≡ sum_of_rows (multiple (pos 1) r) (multiple (pos 1) g) = joined_is before r g last place in
    let c_sum : IsSum variables start edge.to (bound + row_limit) c = subst (IsSum variables start edge.to (bound + row_limit)) (sym c_is) (joined_sum variables start end edge.from edge.to bound row_limit r g sum g_sum walk.1) in
    let long : length (before ++ r ∷ [] ++ g ∷ []) ≡ last + 2 = omega (arith, place, length_push before r, length_push (before ++ r ∷ []) g) in
    let rest_is : c.rest ≡ (pos 1 *ℤ r.rest) +ℤ (pos 1 *ℤ g.rest) = ap (λ (x : PlainRow). x.rest) c_is in
    let g_rest : g.rest ≡ (row_at rows n).0.rest = ap (λ (x : PlainRow). x.rest) g_is in
    let more : pos 0 <ℤ (c.rest -ℤ walk_weight edges ns) = omega (arith, ints, positive, rest_is, g_rest, is.weight) in
    let rest = sums_close rows numbering variables edges graph narrow ns (before ++ r ∷ [] ++ g ∷ []) c (last + 2) start edge.to (bound + row_limit) long c_sum walk.2 (omega (arith, below)) more in
    ((given_allowed rows (before ++ r ∷ []) n known, (can, rest.0)), rest.1)

-- the rows of a negative cycle, added up, close the list of the rows
pub cycle_closes : (rows : List Row) (numbering : BTreeMap ℕ ℕ) (variables : List ℕ) (edges : List Edge) (nodes : ℕ) (numbers : List ℕ) → IsGraph rows (length rows) numbering variables edges → All IsNarrow rows → nodes ≤ 2 ^ 30 + 1 → IsNegativeCycle nodes edges numbers → Closes (claims_of rows) (sum_steps numbers)
cycle_closes rows numbering variables edges nodes [] graph narrow few cycle = absurd (omega (arith, ints, cycle.negative))
cycle_closes rows numbering variables edges nodes (n ∷ ns) graph narrow few cycle =
    let walk = cycle.closed in
    let known : n < length rows = omega (arith, walk.0, graph.as_many) in
    let edge = edge_at edges n in
    let is = graph.each n known in
    let g : PlainRow = made (claims_of rows) [] (Given n) in
    let g_is : g ≡ row_of (row_at rows n).0 = given_row rows [] n known in
    let g_sum : IsSum variables edge.from edge.to row_limit g = subst (IsSum variables edge.from edge.to row_limit) (sym g_is) (edge_sum variables (row_at rows n) edge is (narrow_rest (row_at rows n) (narrow n _ known))) in
    let g_rest : g.rest ≡ (row_at rows n).0.rest = ap (λ (x : PlainRow). x.rest) g_is in
    let round : IsWalk edges edge.to ns edge.from = subst (λ (node : ℕ). IsWalk edges edge.to ns node) (sym walk.1) walk.2 in
    let more : pos 0 <ℤ (g.rest -ℤ walk_weight edges ns) = omega (arith, ints, cycle.negative, g_rest, is.weight) in
    let rest = sums_close rows numbering variables edges graph narrow ns [] g 0 edge.from edge.to row_limit refl g_sum round (omega (arith, cycle.short, few)) more in
    record { allowed = (given_allowed rows [] n known, rest.0); absurd_row = rest.1 }
