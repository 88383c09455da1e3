-- Formulas of places stay light, and have few nodes.
use Rattle.std.proofs.Common.{ℕ, zero, suc, ◌+◌, ◌*◌, ◌≤◌, ◌<◌, ◌≡◌, Bool, true, false, List, [], ◌∷◌, length, arith}
use Rattle.std.specs.Prelude.{pos, Option, Some, None, IsSomeAnd, slice_get}
use Rattle.std.specs.List.{AllByRecursion}
use Rattle.carol_store.specs.declared.shape.CellKind.{CellKind}
use Rattle.carol_store.specs.declared.shape.CellKind.TheVariants.{Counter, Peak, Flag}
use Rattle.carol_formula.specs.Claim.{Claim, True, False, Le, Eq, Ne, And, Or, Not, EachTerm}
use Rattle.carol_formula.specs.Linear.{Linear, constant_of, variable_of}
use Rattle.carol_formula.specs.Weight.{weight}
use Rattle.carol_formula.proofs.Weights.{weight-difference_of, weight-sum_of}
use Rattle.carol_formula.specs.Named.{named_claim, named_term}
use Rattle.carol_formula.proofs.Renamings.{weight-named_term}
use Rattle.carol_program.specs.declared.steps.Part.{Part}
use Rattle.carol_program.proofs.Holdings.{with_kinds-light, with_kinds-nodes}
use Rattle.carol_program.specs.Rows.{at_most, with_kinds}
use Rattle.carol_program.specs.Rules.{Rules, OpRules}
use Rattle.carol_program.specs.WellFormed.{AreRules, IsTermOver, IsFormulaOver}
use Rattle.carol_formula.specs.Size.{nodes_of, light_limit, IsLightTerm, IsLight}
use Rattle.carol_program.specs.Limits.{most_cells, most_queries, most_statements}
use Rattle.carol_program.specs.Variables.{guard_variables, invariant_variables, outcome_variables, query_variable}
use Rattle.carol_obligation.specs.Decoded.{round_variable}
use Rattle.carol_obligation.specs.Sites.{Ending, Amount, After, Gives}
use Rattle.carol_obligation.specs.Formed.{with_round, with_query, guard_at, with_test, too_large, tie, with_tie, with_ties, broken, owed, round_name, guard_name, after_name, result_name}
use Rattle.carol_obligation.specs.Budget.{amount_limit, IsDecidable, AreLightParts, AreSmallParts, round_nodes, test_nodes}
use Rattle.carol_obligation.proofs.Light.{HaveNames, light_term, named_light, round_named, guard_named, after_named, result_named}

-- ---- renamed formulas

pub nodes-named_claim : (name : ℕ → Linear) (c : Claim) → nodes_of (named_claim name c) ≡ nodes_of c
nodes-named_claim name True = omega arith
nodes-named_claim name False = omega arith
nodes-named_claim name (Le t) = omega arith
nodes-named_claim name (Eq t) = omega arith
nodes-named_claim name (Ne t) = omega arith
nodes-named_claim name (And a b) = omega (arith, nodes-named_claim name a, nodes-named_claim name b)
nodes-named_claim name (Or a b) = omega (arith, nodes-named_claim name a, nodes-named_claim name b)
nodes-named_claim name (Not a) = omega (arith, nodes-named_claim name a)

light_named_term : (can : ℕ → Type 0) (name : ℕ → Linear) (ranges : List (ℕ × ℕ)) (t : Linear) → HaveNames can name ranges → IsTermOver ranges t → IsLightTerm (named_term name t)
light_named_term can name ranges t h over = omega (arith, weight-named_term name t, (named_light can name ranges t h over).1)

light-named_claim : (can : ℕ → Type 0) (name : ℕ → Linear) (ranges : List (ℕ × ℕ)) (c : Claim) → HaveNames can name ranges → EachTerm (IsTermOver ranges) c → IsLight (named_claim name c)
light-named_claim can name ranges True h each = tt
light-named_claim can name ranges False h each = tt
light-named_claim can name ranges (Le t) h each = light_named_term can name ranges t h each
light-named_claim can name ranges (Eq t) h each = light_named_term can name ranges t h each
light-named_claim can name ranges (Ne t) h each = light_named_term can name ranges t h each
light-named_claim can name ranges (And a b) h each = (light-named_claim can name ranges a h each.0, light-named_claim can name ranges b h each.1)
light-named_claim can name ranges (Or a b) h each = (light-named_claim can name ranges a h each.0, light-named_claim can name ranges b h each.1)
light-named_claim can name ranges (Not a) h each = light-named_claim can name ranges a h each

-- ---- formulas that grow

-- the formula is light, and has at most so many nodes more than the other
pub record Grows (old : Claim) (by : ℕ) (new : Claim) : Type 0 where
  pub light : IsLight old → IsLight new
  pub few : nodes_of new ≤ nodes_of old + by

pub grows_then : {a b c : Claim} {m n : ℕ} → Grows a m b → Grows b n c → Grows a (m + n) c
grows_then {a} {b} {c} {m} {n} g h = record { light = λ l. h.light (g.light l); few = omega (arith, g.few, h.few) }

-- one formula more
pub grows_and : (old c : Claim) (most : ℕ) → IsLight c → nodes_of c ≤ most → Grows old (most + 1) (And old c)
grows_and old c most light few = record { light = λ l. (l, light); few = omega (arith, few) }

pub light_at_most : (s t : Linear) → weight s + weight t < light_limit → IsLight (at_most s t)
light_at_most s t h = omega (arith, h, weight-difference_of s t)

with_stored : (kinds : List CellKind) (base : ℕ) (known c : Claim) → length kinds ≤ most_cells → IsLight c → nodes_of c ≤ 256 → Grows known round_nodes (with_kinds kinds base (And known c))
with_stored kinds base known c few light small =
    let first = grows_and known c 256 light small in
    record {
      light = λ l. with_kinds-light kinds base (And known c) (first.light l);
      few = omega (arith, first.few, with_kinds-nodes kinds base (And known c), few);
    }

pub grows_round : (p : Rules) (round : ℕ) (known : Claim) → AreRules p → round ≤ most_statements → Grows known round_nodes (with_round p round known)
grows_round p round known rules le =
    with_stored p.shape (round_variable round 0) known (named_claim (round_name round) p.invariant) rules.few_cells
    (light-named_claim _ (round_name round) (invariant_variables p.shape) p.invariant (round_named round p.shape rules.few_cells le) rules.invariant.terms)
    (omega (arith, nodes-named_claim (round_name round) p.invariant, rules.invariant.few))

grows_guard : (p : Rules) (o : Option Claim) (slot round : ℕ) (known : Claim) → AreRules p → slot < most_queries → round ≤ most_statements → IsSomeAnd o (IsFormulaOver (guard_variables p.shape)) → Grows known round_nodes (guard_at p o slot round known)
grows_guard p None slot round known rules s le h = absurd h
grows_guard p (Some c) slot round known rules s le h =
    with_stored p.shape (query_variable slot 0) known (named_claim (guard_name slot round) c) rules.few_cells
    (light-named_claim _ (guard_name slot round) (guard_variables p.shape) c (guard_named slot round p.shape rules.few_cells s le) h.terms)
    (omega (arith, nodes-named_claim (guard_name slot round) c, h.few))

-- what holds of each holds of the one with this number
pub each_at : {A : Type 0} (P : A → Type 0) (xs : List A) (i : ℕ) → AllByRecursion P xs → i < length xs → IsSomeAnd (slice_get xs i) P
each_at P [] i h lt = absurd (omega arith)
each_at P (x ∷ xs) zero h lt = h.0
each_at P (x ∷ xs) (suc i) h lt = each_at P xs i h.1 (omega (arith, lt))

pub grows_query : (p : Rules) (guard slot round : ℕ) (known : Claim) → AreRules p → guard < length p.guards → slot < most_queries → round ≤ most_statements → Grows known round_nodes (with_query p guard slot round known)
grows_query p guard slot round known rules lt s le = grows_guard p (slice_get p.guards guard) slot round known rules s le (each_at (IsFormulaOver (guard_variables p.shape)) p.guards guard rules.guards lt)

light_own : (ranges : List (ℕ × ℕ)) (t : Linear) → IsTermOver ranges t → IsLightTerm t
light_own ranges t h = omega (arith, light_term ranges t h)

-- a formula of a program is light
pub light_claim : (ranges : List (ℕ × ℕ)) (c : Claim) → EachTerm (IsTermOver ranges) c → IsLight c
light_claim ranges True h = tt
light_claim ranges False h = tt
light_claim ranges (Le t) h = light_own ranges t h
light_claim ranges (Eq t) h = light_own ranges t h
light_claim ranges (Ne t) h = light_own ranges t h
light_claim ranges (And a b) h = (light_claim ranges a h.0, light_claim ranges b h.1)
light_claim ranges (Or a b) h = (light_claim ranges a h.0, light_claim ranges b h.1)
light_claim ranges (Not a) h = light_claim ranges a h

-- ---- what is asked at a place

amount_large : (kind : CellKind) (t : Linear) → weight t < amount_limit → IsLight (too_large kind t)
amount_large Counter t h = (light_at_most (constant_of (pos 1000000001)) t (omega (arith, h)), omega (arith, h, weight-sum_of t (constant_of (pos 1000000001))))
amount_large Peak t h = (light_at_most (constant_of (pos 1000000000001)) t (omega (arith, h)), omega (arith, h, weight-sum_of t (constant_of (pos 1000000000001))))
amount_large Flag t h = (light_at_most (constant_of (pos 2)) t (omega (arith, h)), omega (arith, h, weight-sum_of t (constant_of (pos 2))))

light_tie : (round cell : ℕ) (t : Linear) → weight t < amount_limit → IsLight (tie round cell t)
light_tie round cell t h =
    let x = variable_of (round_variable round cell) in
    let y = variable_of cell in
    ((light_at_most x y (omega arith), light_at_most t y (omega (arith, h))), (light_at_most y x (omega arith), light_at_most y t (omega (arith, h))))

grows_tie : (round : ℕ) (part : Part) (kind : Option CellKind) (known : Claim) → weight part.amount < amount_limit → Grows known 8 (with_tie round part kind known)
grows_tie round part (Some Peak) known h = grows_and known (tie round part.cell part.amount) 7 (light_tie round part.cell part.amount h) (omega arith)
grows_tie round part (Some Counter) known h = record { light = λ l. l; few = omega arith }
grows_tie round part (Some Flag) known h = record { light = λ l. l; few = omega arith }
grows_tie round part None known h = record { light = λ l. l; few = omega arith }

grows_ties : (kinds : List CellKind) (round : ℕ) (parts : List Part) (known : Claim) → AreLightParts parts → Grows known (8 * length parts) (with_ties kinds round parts known)
grows_ties kinds round [] known h = record { light = λ l. l; few = omega arith }
grows_ties kinds round (part ∷ parts) known h =
    let first = grows_tie round part (slice_get kinds part.cell) known h.0 in
    let more = grows_ties kinds round parts (with_tie round part (slice_get kinds part.cell) known) h.1 in
    record { light = λ l. more.light (first.light l); few = omega (arith, first.few, more.few) }

-- what a place wants: parts and values that are light
abbrev pub IsSmallEnding : Ending → Type 0
IsSmallEnding (Amount atom kind part) = weight part.amount < amount_limit
IsSmallEnding (After parts) = AreSmallParts parts
IsSmallEnding (Gives value) = weight value < amount_limit

-- what is asked adds at most so many nodes
abbrev pub asked_nodes : ℕ
asked_nodes = 500

grows_broken : (p : Rules) (op : OpRules) (round params : ℕ) (ending : Ending) (known : Claim) → AreRules p → round ≤ most_statements → IsFormulaOver (outcome_variables params) op.result → IsSmallEnding ending → Grows known asked_nodes (broken p op round ending known)
grows_broken p op round params (Amount atom kind part) known rules le over h =
    let large = grows_and known (too_large kind part.amount) 3 (amount_large kind part.amount h) (omega arith) in
    record { light = large.light; few = omega (arith, large.few) }
grows_broken p op round params (After parts) known rules le over h =
    let name = after_name p.shape parts round in
    let ties = grows_ties p.shape round parts known h.light in
    let light = light-named_claim _ name (invariant_variables p.shape) p.invariant (after_named p.shape parts round p.shape rules.few_cells le h.light) rules.invariant.terms in
    record { light = λ l. (ties.light l, light); few = omega (arith, ties.few, h.few, nodes-named_claim name p.invariant, rules.invariant.few) }
grows_broken p op round params (Gives value) known rules le over h =
    let name = result_name value in
    let light = light-named_claim _ name (outcome_variables params) op.result (result_named value params h) over.terms in
    record { light = λ l. (l, light); few = omega (arith, nodes-named_claim name op.result, over.few) }

-- the formula of a place can be decided
pub owed_decidable : (p : Rules) (op : OpRules) (round params : ℕ) (ending : Ending) (known : Claim) → AreRules p → round ≤ most_statements → IsFormulaOver (outcome_variables params) op.result → IsSmallEnding ending → IsLight known → nodes_of known ≤ 50000 → IsDecidable (owed p op round ending known)
owed_decidable p op round params ending known rules le over small light few =
    let first = grows_round p round known rules le in
    let more = grows_broken p op round params ending (with_round p round known) rules le over small in
    record { light = more.light (first.light light); few = omega (arith, first.few, more.few, few) }

-- ---- tests and parameters

pub grows_test : (test : Claim) (side : Bool) (known : Claim) (ranges : List (ℕ × ℕ)) → IsFormulaOver ranges test → Grows known test_nodes (with_test test side known)
grows_test test true known ranges over = let more = grows_and known test 256 (light_claim ranges test over.terms) over.few in record { light = more.light; few = omega (arith, more.few) }
grows_test test false known ranges over = grows_and known (Not test) 257 (light_claim ranges test over.terms) (omega (arith, over.few))
