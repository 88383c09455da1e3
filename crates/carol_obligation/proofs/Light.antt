-- What is light: terms of a well-formed program, and those that stand for them in the formulas of places.
use Rattle.std.proofs.Common.{ℕ, ◌+◌, ◌*◌, ◌≤◌, ◌<◌, ◌≡◌, Bool, true, false, List, [], ◌∷◌, length, arith, ap, ◌∙◌, inl, inr}
use Rattle.std.specs.Prelude.{⊤, ◌^◌, ℤ, unsigned_abs, Option, IfSome, Some, None, ◌==◌, nat_lt, if◌then◌else◌, slice_get}
use Rattle.std.specs.List.{AllByRecursion}
use Rattle.std.proofs.lemmas.Nat.{mul-le}
use Rattle.carol_store.specs.declared.shape.CellKind.{CellKind}
use Rattle.carol_store.specs.declared.shape.CellKind.TheVariants.{Counter, Peak, Flag}
use Rattle.carol_formula.specs.Claim.{Claim, True, False, Le, Eq, Ne, And, Or, Not, EachTerm}
use Rattle.carol_formula.specs.Linear.{Linear, variable_of}
use Rattle.carol_formula.specs.Weight.{mass, weight}
use Rattle.carol_formula.proofs.Weights.{weight-sum_of}
use Rattle.carol_formula.specs.Named.{AllNamed, IsNameable, IsNameableClaim, named_mass, named_weight}
use Rattle.carol_program.specs.declared.steps.Part.{Part}
use Rattle.carol_program.specs.Rules.{Rules}
use Rattle.carol_program.specs.Limits.{most_queries, most_statements}
use Rattle.carol_program.specs.Variables.{IsAmong, AreAmong, guard_variables, invariant_variables, outcome_variables}
use Rattle.carol_program.specs.WellFormed.{AreRules, AreSmall, IsTermOver, IsPartOver}
use Rattle.carol_reading.specs.Readings.{amount_for}
use Rattle.carol_obligation.specs.Decoded.{round_variable}
use Rattle.carol_obligation.specs.Formed.{round_name, guard_name, done_name, cell_name, after_name, result_name}
use Rattle.carol_obligation.specs.Budget.{AreLightParts, amount_limit}

-- ---- terms of a program

mass-small : (ps : List (ℕ × ℤ)) → AreSmall ps → mass ps ≤ length ps * 1000000000
mass-small [] h = omega arith
mass-small (p ∷ ps) h = omega (arith, h.0, mass-small ps h.1)

few_small : (m n r : ℕ) → m ≤ n * 1000000000 → n ≤ 256 → r ≤ 1000000000000000 → m + r < amount_limit
few_small m n r h k l = omega arith

pub light_term : (ranges : List (ℕ × ℕ)) (t : Linear) → IsTermOver ranges t → weight t < amount_limit
light_term ranges t h = few_small (mass t.pairs) (length t.pairs) (unsigned_abs t.rest) (mass-small t.pairs h.small.0) h.short h.small.1

pub light_parts : (kinds : List CellKind) (ranges : List (ℕ × ℕ)) (parts : List Part) → AllByRecursion (IsPartOver kinds ranges) parts → AreLightParts parts
light_parts kinds ranges [] h = tt
light_parts kinds ranges (part ∷ parts) h = (light_term ranges part.amount h.0.1, light_parts kinds ranges parts h.1)

light_either : (b : Bool) (part : Part) (o : Option Linear) → weight part.amount < amount_limit → IfSome o (λ t. weight t < amount_limit) → IfSome (if b then Some part.amount else o) (λ t. weight t < amount_limit)
light_either true part o h g = h
light_either false part o h g = g

-- what is done to a cell by light parts is light
pub light_amount : (cell : ℕ) (parts : List Part) → AreLightParts parts → IfSome (amount_for cell parts) (λ t. weight t < amount_limit)
light_amount cell [] h = tt
light_amount cell (part ∷ parts) h = light_either (part.cell == cell) part (amount_for cell parts) h.0 (light_amount cell parts h.1)

-- ---- what stands for a variable

light_done : (round cell : ℕ) (kind : Option CellKind) (t : Linear) → weight t < amount_limit → weight (done_name round cell kind t) ≤ amount_limit
light_done round cell (Some Counter) t h = omega (arith, weight-sum_of (variable_of (round_variable round cell)) t)
light_done round cell (Some Peak) t h = omega arith
light_done round cell (Some Flag) t h = omega arith
light_done round cell None t h = omega arith

light_cell : (round cell : ℕ) (kind : Option CellKind) (o : Option Linear) → IfSome o (λ t. weight t < amount_limit) → weight (cell_name round cell kind o) ≤ amount_limit
light_cell round cell kind None h = omega arith
light_cell round cell kind (Some t) h = light_done round cell kind t h

pub light_after : (kinds : List CellKind) (parts : List Part) (round cell : ℕ) → AreLightParts parts → weight (after_name kinds parts round cell) ≤ amount_limit
light_after kinds parts round cell h = light_cell round cell (slice_get kinds cell) (amount_for cell parts) (light_amount cell parts h)

light_guard : (b : Bool) (v w : ℕ) → weight (if b then variable_of v else variable_of w) ≤ amount_limit
light_guard true v w = omega arith
light_guard false v w = omega arith

pub light_here_there : (slot round v : ℕ) → weight (guard_name slot round v) ≤ amount_limit
light_here_there slot round v = light_guard (nat_lt v 16) _ _

light_value : (b : Bool) (t : Linear) (v : ℕ) → weight t < amount_limit → weight (if b then t else variable_of v) ≤ amount_limit
light_value true t v h = omega arith
light_value false t v h = omega arith

pub light_result : (t : Linear) (v : ℕ) → weight t < amount_limit → weight (result_name t v) ≤ amount_limit
light_result t v h = light_value (v == 48) t v h

-- ---- renamed formulas

-- each variable of the ranges has a light term
abbrev pub HaveNames : (ℕ → Type 0) → (ℕ → Linear) → List (ℕ × ℕ) → Type 0
HaveNames can name ranges = (v : ℕ) → IsAmong ranges v → can v × (weight (name v) ≤ amount_limit)

named_pairs : (can : ℕ → Type 0) (name : ℕ → Linear) (ranges : List (ℕ × ℕ)) (ps : List (ℕ × ℤ)) → HaveNames can name ranges → AreAmong ranges ps → AreSmall ps → AllNamed can ps × (named_mass name ps ≤ length ps * (1000000000 * amount_limit))
named_pairs can name ranges [] h among small = (tt, omega arith)
named_pairs can name ranges (p ∷ ps) h among small =
    let one = h p.0 among.0 in
    let more = named_pairs can name ranges ps h among.1 small.1 in
    ((one.0, more.0), omega (arith, mul-le (unsigned_abs p.1) (weight (name p.0)) 1000000000 amount_limit small.0 one.1, more.1))

few_named : (m n r : ℕ) → m ≤ n * (1000000000 * amount_limit) → n ≤ 256 → r ≤ 1000000000000000 → m + r < 618970019642690137449562112
few_named m n r h k l = omega arith

-- the limit of what a renamed term weighs
abbrev pub named_limit : ℕ
named_limit = 2 ^ 89

pub named_light : (can : ℕ → Type 0) (name : ℕ → Linear) (ranges : List (ℕ × ℕ)) (t : Linear) → HaveNames can name ranges → IsTermOver ranges t → IsNameable can name t × (named_weight name t < named_limit)
named_light can name ranges t h over =
    let pairs = named_pairs can name ranges t.pairs h over.variables over.small.0 in
    let few = few_named (named_mass name t.pairs) (length t.pairs) (unsigned_abs t.rest) pairs.1 over.short over.small.1 in
    (record { named = pairs.0; light = omega (arith, few) }, few)

-- a formula over the ranges can be renamed
pub nameable : (can : ℕ → Type 0) (name : ℕ → Linear) (ranges : List (ℕ × ℕ)) (c : Claim) → HaveNames can name ranges → EachTerm (IsTermOver ranges) c → IsNameableClaim can name c
nameable can name ranges True h each = tt
nameable can name ranges False h each = tt
nameable can name ranges (Le t) h each = (named_light can name ranges t h each).0
nameable can name ranges (Eq t) h each = (named_light can name ranges t h each).0
nameable can name ranges (Ne t) h each = (named_light can name ranges t h each).0
nameable can name ranges (And a b) h each = (nameable can name ranges a h each.0, nameable can name ranges b h each.1)
nameable can name ranges (Or a b) h each = (nameable can name ranges a h each.0, nameable can name ranges b h each.1)
nameable can name ranges (Not a) h each = nameable can name ranges a h each

-- ---- the variables of a program's formulas have light terms

pub round_named : (round : ℕ) (cells : List CellKind) → length cells ≤ 16 → round ≤ most_statements → HaveNames (λ v. (v < 16) × (round ≤ most_statements)) (round_name round) (invariant_variables cells)
round_named round cells few le v (inl h) = ((omega (arith, h.1, few), le), omega arith)
round_named round cells few le v (inr h) = absurd h

pub guard_named : (slot round : ℕ) (cells : List CellKind) → length cells ≤ 16 → slot < most_queries → round ≤ most_statements → HaveNames (λ v. (v < 32) × (slot < most_queries) × (round ≤ most_statements)) (guard_name slot round) (guard_variables cells)
guard_named slot round cells few s le v (inl h) = ((omega (arith, h.1, few), s, le), light_here_there slot round v)
guard_named slot round cells few s le v (inr (inl h)) = ((omega (arith, h.1, few), s, le), light_here_there slot round v)
guard_named slot round cells few s le v (inr (inr h)) = absurd h

pub after_named : (kinds : List CellKind) (parts : List Part) (round : ℕ) (cells : List CellKind) → length cells ≤ 16 → round ≤ most_statements → AreLightParts parts → HaveNames (λ v. (v < 16) × (round ≤ most_statements) × AreLightParts parts) (after_name kinds parts round) (invariant_variables cells)
after_named kinds parts round cells few le light v (inl h) = ((omega (arith, h.1, few), le, light), light_after kinds parts round v light)
after_named kinds parts round cells few le light v (inr h) = absurd h

pub result_named : (value : Linear) (n : ℕ) → weight value < amount_limit → HaveNames (λ v. ⊤) (result_name value) (outcome_variables n)
result_named value n light v h = (tt, light_result value v light)

-- ---- so the formulas of a program can be renamed

pub nameable_round : (p : Rules) (round : ℕ) → AreRules p → round ≤ most_statements → IsNameableClaim (λ v. (v < 16) × (round ≤ most_statements)) (round_name round) p.invariant
nameable_round p round rules le = nameable (λ v. (v < 16) × (round ≤ most_statements)) (round_name round) (invariant_variables p.shape) p.invariant (round_named round p.shape rules.few_cells le) rules.invariant.terms

pub nameable_guard : (cells : List CellKind) (slot round : ℕ) (guard : Claim) → length cells ≤ 16 → slot < most_queries → round ≤ most_statements → EachTerm (IsTermOver (guard_variables cells)) guard → IsNameableClaim (λ v. (v < 32) × (slot < most_queries) × (round ≤ most_statements)) (guard_name slot round) guard
nameable_guard cells slot round guard few s le each = nameable (λ v. (v < 32) × (slot < most_queries) × (round ≤ most_statements)) (guard_name slot round) (guard_variables cells) guard (guard_named slot round cells few s le) each

pub nameable_after : (p : Rules) (kinds : List CellKind) (parts : List Part) (round : ℕ) → AreRules p → round ≤ most_statements → AreLightParts parts → IsNameableClaim (λ v. (v < 16) × (round ≤ most_statements) × AreLightParts parts) (after_name kinds parts round) p.invariant
nameable_after p kinds parts round rules le light = nameable (λ v. (v < 16) × (round ≤ most_statements) × AreLightParts parts) (after_name kinds parts round) (invariant_variables p.shape) p.invariant (after_named kinds parts round p.shape rules.few_cells le light) rules.invariant.terms

pub nameable_result : (value : Linear) (n : ℕ) (c : Claim) → weight value < amount_limit → EachTerm (IsTermOver (outcome_variables n)) c → IsNameableClaim (λ v. ⊤) (result_name value) c
nameable_result value n c light each = nameable (λ v. ⊤) (result_name value) (outcome_variables n) c (result_named value n light) each

-- what is done to a cell by the parts is what stands for it
pub after_name-is : (kinds : List CellKind) (parts : List Part) (round cell : ℕ) (kind : Option CellKind) (amount : Linear) → kind ≡ slice_get kinds cell → Some amount ≡ amount_for cell parts → done_name round cell kind amount ≡ after_name kinds parts round cell
after_name-is kinds parts round cell kind amount e f = ap (λ k. done_name round cell k amount) e ∙ ap (cell_name round cell (slice_get kinds cell)) f
