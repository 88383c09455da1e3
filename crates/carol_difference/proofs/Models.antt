-- From potentials to numbers that make every row true.
use Rattle.std.proofs.Common.{◌≡◌, ◌≢◌, ℕ, zero, suc, ◌+◌, ◌^◌, ◌<◌, ◌≤◌, List, [], ◌∷◌, length, get_or, refl, sym, subst, ap, ◌∙◌, inl, inr, arith, add-one, Option, Some}
use Rattle.std.specs.Prelude.{slice_get, ℤ, pos, negsuc, ◌-ℤ◌, ◌*ℤ◌, ◌≤ℤ◌, unsigned_abs, IsTrue}
use Rattle.std.specs.List.{All}
use Rattle.std.specs.BTreeMap.{BTreeMap}
use Rattle.std.specs.Int.{w128}
use mir.Val.{to_z, of_z}
use Rattle.std.proofs.lemmas.Int.{ints}
use Rattle.std.proofs.lemmas.Bool.{cases_eq, false≢true}
use Rattle.std.proofs.lemmas.Bool.Decides.{nat_tests}
use Rattle.std.proofs.lemmas.List.{get_or_default}
use Rattle.std.proofs.lemmas.Option.{slice_get-get_or}
use Rattle.carol_formula.specs.Claim.{truth}
use Rattle.carol_formula.specs.Bounds.{AreNear, row_limit, value_limit}
use Rattle.carol_formula.specs.Linear.{Linear}
use Rattle.carol_formula.specs.Weight.{mass}
use Rattle.carol_formula.proofs.Claims.{at_most_zero, is_at_most_zero_from}
use Rattle.carol_formula.proofs.Weights.{FitsWithin-near}
use Rattle.carol_formula.specs.Numbers.{number_at, with_number}
use Rattle.carol_formula.specs.Value.{value_at, Fits}
use Rattle.carol_formula.specs.declared.Row.{Row}
use Rattle.carol_difference.specs.Edges.{edge_at, value_in, IsWithin, Meets, IsPotential, CannotBeMet}
use Rattle.carol_difference.specs.declared.paths.Edge.{Edge}
use Rattle.carol_difference.specs.Rows.{AreDifference, IsDifference, IsNarrow, IsUnit, AreOpposite, row_at, claim_of_row}
use Rattle.carol_difference.specs.Decision.{IsMet, CannotBeTrue}
use Rattle.carol_difference.specs.Split.{number_of}
use Rattle.carol_difference.specs.Evidence.{AreApart, GivesNumbers}
use Rattle.carol_difference.specs.Graph.{variable_at, IsEdgeOf, IsGraph}

-- ---- a number that is set

number_at-same : (v : ℕ) (number : ℤ) (ps : List (ℕ × ℤ)) → number_at (with_number v number ps) v ≡ number
number_at-same v number [] = grind (arith, nat_tests)
number_at-same v number (p ∷ ps) = grind (arith, nat_tests, number_at-same v number ps)

number_at-other : (v w : ℕ) (number : ℤ) (ps : List (ℕ × ℤ)) → w ≢ v → number_at (with_number v number ps) w ≡ number_at ps w
number_at-other v w number [] apart = grind (arith, nat_tests)
number_at-other v w number (p ∷ ps) apart = grind (arith, nat_tests, number_at-other v w number ps apart)

-- ---- the numbers of a row

unit_mass : (c : ℤ) → IsUnit c → unsigned_abs c ≡ 1
unit_mass c unit = elim unit [ inl one ↦ ap unsigned_abs one | inr minus_one ↦ ap unsigned_abs minus_one ]

opposite_mass : (c d : ℤ) → AreOpposite c d → unsigned_abs c + unsigned_abs d ≡ 2
opposite_mass c d opposite =
    elim opposite [
      | inl p ↦ omega (arith, ap unsigned_abs p.0, ap unsigned_abs p.1)
      | inr p ↦ omega (arith, ap unsigned_abs p.0, ap unsigned_abs p.1)
    ]

difference_mass : (pairs : List (ℕ × ℤ)) → AreDifference pairs → mass pairs ≤ 2
difference_mass [] is = omega arith
difference_mass (p ∷ []) is = omega (arith, unit_mass p.1 is)
difference_mass (p ∷ q ∷ []) is = omega (arith, opposite_mass p.1 q.1 is)
difference_mass (p ∷ q ∷ r ∷ ps) is = elim is [ ]

-- a row of differences can be added up at numbers that are not too large
row_fits : (t : Linear) (f : ℕ → ℤ) → AreDifference t.pairs → unsigned_abs t.rest ≤ row_limit → AreNear (2 ^ 124) f → Fits t f
row_fits t f is narrow near = FitsWithin-near value_limit (2 ^ 124) t f near (omega (arith, difference_mass t.pairs is, narrow))

-- ---- potentials as numbers

-- with no variable yet, every number is 0
pub GivesNumbers-none : (variables : List ℕ) (values : List ℤ) → GivesNumbers variables values 0 []
GivesNumbers-none variables values = record { given = λ k v h e. absurd (omega (arith, h)); small = λ v. omega arith }

-- one variable more
pub GivesNumbers-set : (variables : List ℕ) (values : List ℤ) (count v : ℕ) (number : ℤ) (numbers : List (ℕ × ℤ)) → AreApart variables → GivesNumbers variables values count numbers → slice_get variables count ≡ Some v → number ≡ value_in values (count + 1) -ℤ value_in values 0 → unsigned_abs number ≤ 2 ^ 124 → GivesNumbers variables values (count + 1) (with_number v number numbers)
GivesNumbers-set variables values count v number numbers apart it at number_is near = record {
  given = λ k w h e. elim (cases_eq k count) [
    | inl same ↦
        let found : Some w ≡ Some v = sym e ∙ ap (slice_get variables) same ∙ at in
        let its : w ≡ v = cc in
        ap (number_at (with_number v number numbers)) its ∙ number_at-same v number numbers ∙ number_is ∙ ap (λ (n : ℕ). value_in values (n + 1) -ℤ value_in values 0) (sym same)
    | inr other ↦
        let differs : w ≢ v = λ same. other (apart k count v (e ∙ ap Some same) at) in
        number_at-other v w number numbers differs ∙ it.given k w (omega (arith, h, other)) e
  ];
  small = λ w. elim (cases_eq w v) [
    | inl same ↦ subst (λ (z : ℤ). unsigned_abs z ≤ 2 ^ 124) (sym (ap (number_at (with_number v number numbers)) same ∙ number_at-same v number numbers)) near
    | inr other ↦ subst (λ (z : ℤ). unsigned_abs z ≤ 2 ^ 124) (sym (number_at-other v w number numbers other)) (it.small w)
  ];
}

-- a node's variable has the node's potential, less that of node 0
node_number : (variables : List ℕ) (values : List ℤ) (numbers : List (ℕ × ℤ)) (node : ℕ) → GivesNumbers variables values (length variables) numbers → node ≤ length variables → number_of (variable_at variables node) (number_at numbers) ≡ value_in values node -ℤ value_in values 0
node_number variables values numbers zero it h = omega (arith, ints)
node_number variables values numbers (suc k) it h =
    let below : k < length variables = omega (arith, h) in
    let at = slice_get-get_or variables k 0 below in
    ap (λ (o : Option ℕ). number_of o (number_at numbers)) at ∙ it.given k _ below at ∙ ap (λ (n : ℕ). value_in values n -ℤ value_in values 0) (add-one k)

row_met : (variables : List ℕ) (values : List ℤ) (numbers : List (ℕ × ℤ)) (row : Row) (e : Edge) → IsEdgeOf variables row e → IsDifference row → IsNarrow row → GivesNumbers variables values (length variables) numbers → Meets (value_in values) e → IsMet (number_at numbers) row
row_met variables values numbers row e is difference narrow it meets =
    let to = node_number variables values numbers e.to it is.to in
    let from = node_number variables values numbers e.from it is.from in
    let sum = is.split.value (number_at numbers) in
    let weight = is.weight in
    let rest : unsigned_abs row.0.rest ≤ row_limit = omega (arith, narrow.constant) in
    (row_fits row.0 (number_at numbers) difference rest it.small, is_at_most_zero_from (value_at row.0 (number_at numbers)) (omega (arith, ints, to, from, sum, weight, meets)))

-- the row that is read at any default
row_read : (rows : List Row) (P : Row → Type 0) (k : ℕ) (d : Row) → k < length rows → P (row_at rows k) → P (get_or rows k d)
row_read rows P k d h p = subst P (get_or_default rows k _ d h) p

pub rows_met : (rows : List Row) (numbering : BTreeMap ℕ ℕ) (variables : List ℕ) (edges : List Edge) (values : List ℤ) (numbers : List (ℕ × ℤ)) → IsGraph rows (length rows) numbering variables edges → All IsDifference rows → All IsNarrow rows → All (Meets (value_in values)) edges → GivesNumbers variables values (length variables) numbers → All (IsMet (number_at numbers)) rows
rows_met rows numbering variables edges values numbers graph differences narrow meets it k d h =
    row_read rows (IsMet (number_at numbers)) k d h (row_met variables values numbers (row_at rows k) (edge_at edges k) (graph.each k h) (differences k _ h) (narrow k _ h) it (meets k _ (omega (arith, h, graph.as_many))))

-- ---- numbers as potentials

edge_met : (variables : List ℕ) (f : ℕ → ℤ) (row : Row) (e : Edge) → IsEdgeOf variables row e → IsTrue (truth (claim_of_row row) f) → Meets (λ node. number_of (variable_at variables node) f) e
edge_met variables f row e is holds =
    let below = at_most_zero (value_at row.0 f) holds in
    let sum = is.split.value f in
    let weight = is.weight in
    omega (arith, ints, below, sum, weight)

pub cannot_be_true : (rows : List Row) (numbering : BTreeMap ℕ ℕ) (variables : List ℕ) (edges : List Edge) → IsGraph rows (length rows) numbering variables edges → CannotBeMet edges → CannotBeTrue rows
cannot_be_true rows numbering variables edges graph refuted f holds =
    refuted (λ node. number_of (variable_at variables node) f) (λ k d h.
    let below : k < length rows = omega (arith, h, graph.as_many) in
    subst (Meets (λ node. number_of (variable_at variables node) f)) (get_or_default edges k _ d h) (edge_met variables f (row_at rows k) (edge_at edges k) (graph.each k below) (holds k _ below)))

-- the difference of two potentials, as the code computes it
pub difference_is : (a b : ℤ) → unsigned_abs a ≤ 2 ^ 123 → unsigned_abs b ≤ 2 ^ 123 → to_z w128 (of_z w128 (to_z w128 (of_z w128 a) -ℤ to_z w128 (of_z w128 b))) ≡ a -ℤ b
difference_is a b near near_too = omega (arith, ints, near, near_too)

pub difference_near : (a b : ℤ) → unsigned_abs a ≤ 2 ^ 123 → unsigned_abs b ≤ 2 ^ 123 → unsigned_abs (a -ℤ b) ≤ 2 ^ 124
difference_near a b near near_too = omega (arith, ints, near, near_too)

-- no edge's weight is far from 0
weights_within : (rows : List Row) (numbering : BTreeMap ℕ ℕ) (variables : List ℕ) (edges : List Edge) → IsGraph rows (length rows) numbering variables edges → All IsNarrow rows → All (IsWithin row_limit) edges
weights_within rows numbering variables edges graph narrow k d h =
    let below : k < length rows = omega (arith, h, graph.as_many) in
    let rest : unsigned_abs (row_at rows k).0.rest < row_limit = (narrow k _ below).constant in
    let weight = (graph.each k below).weight in
    let near : unsigned_abs (edge_at edges k).weight ≤ row_limit = omega (arith, ints, rest, weight) in
    subst (IsWithin row_limit) (get_or_default edges k _ d h) near

-- nor is any potential
pub potentials_near : (rows : List Row) (numbering : BTreeMap ℕ ℕ) (variables : List ℕ) (edges : List Edge) (nodes : ℕ) (values : List ℤ) → IsGraph rows (length rows) numbering variables edges → All IsNarrow rows → nodes ≤ 2 ^ 30 + 1 → IsPotential nodes edges values → All (λ value. unsigned_abs value ≤ 2 ^ 123) values
potentials_near rows numbering variables edges nodes values graph narrow few potential k d h =
    let near = potential.within row_limit (weights_within rows numbering variables edges graph narrow) k d h in
    omega (arith, near, few)
