-- The formulas that are decided are light and have few nodes, and so have their negation forms.
use Rattle.std.proofs.Common.{ℕ, ◌+◌, ◌*◌, ◌-◌, ◌≤◌, ◌<◌, ◌≡◌, Bool, true, false, List, [], ◌∷◌, length, arith}
use Rattle.std.specs.Prelude.{⊤, ◌^◌, ℤ, pos, unsigned_abs, ◌==◌, nat_lt, if◌then◌else◌}
use Rattle.std.proofs.lemmas.Nat.{mul-le}
use Rattle.carol_store.specs.declared.shape.CellKind.{CellKind}
use Rattle.carol_store.specs.declared.shape.CellKind.TheVariants.{Counter, Peak, Flag}
use Rattle.carol_store.specs.declared.direction.Direction.{Direction}
use Rattle.carol_formula.specs.Claim.{Claim, True, False, Le, Eq, Ne, And, Or, Not, EachTerm}
use Rattle.carol_formula.specs.Linear.{Linear, variable_of, constant_of}
use Rattle.carol_formula.specs.Weight.{mass, weight}
use Rattle.carol_formula.proofs.Weights.{weight-sum_of, weight-difference_of}
use Rattle.carol_formula.specs.Named.{AllNamed, IsNameable, IsNameableClaim, named_mass, named_weight, named_claim}
use Rattle.carol_formula.proofs.Renamings.{weight-named_claim}
use Rattle.carol_program.proofs.Holdings.{with_kinds-light, with_kinds-nodes}
use Rattle.carol_program.specs.Variables.{guard_variables, there_variable}
use Rattle.carol_program.specs.WellFormed.{AreSmall, IsTermOver}
use Rattle.carol_formula.specs.Size.{nodes_of, IsLight}
use Rattle.carol_accord.specs.Formed.{equal_name, equal_claim, stepped_name, step_name, step_claim}
use Rattle.carol_accord.specs.Parts.{IsGuard, most_formula}

-- ---- a guard

mass-small : (ps : List (ℕ × ℤ)) → AreSmall ps → mass ps ≤ length ps * 1000000000
mass-small [] h = omega arith
mass-small (p ∷ ps) h = omega (arith, h.0, mass-small ps h.1)

few_small : (m n r : ℕ) → m ≤ n * 1000000000 → n ≤ 256 → r ≤ 1000000000000000 → m + r < 618970019642690137449562112
few_small m n r h k l = omega arith

light_term : (ranges : List (ℕ × ℕ)) (t : Linear) → IsTermOver ranges t → weight t < 2 ^ 89
light_term ranges t h = few_small (mass t.pairs) (length t.pairs) (unsigned_abs t.rest) (mass-small t.pairs h.small.0) h.short h.small.1

light_guard : (ranges : List (ℕ × ℕ)) (c : Claim) → EachTerm (IsTermOver ranges) c → IsLight c
light_guard ranges True h = tt
light_guard ranges False h = tt
light_guard ranges (Le t) h = light_term ranges t h
light_guard ranges (Eq t) h = light_term ranges t h
light_guard ranges (Ne t) h = light_term ranges t h
light_guard ranges (And a b) h = (light_guard ranges a h.0, light_guard ranges b h.1)
light_guard ranges (Or a b) h = (light_guard ranges a h.0, light_guard ranges b h.1)
light_guard ranges (Not a) h = light_guard ranges a h

-- ---- a renamed guard

module _ (can : ℕ → Type 0) (name : ℕ → Linear) (ranges : List (ℕ × ℕ)) (named : (v : ℕ) → can v × (weight (name v) ≤ 2)) where
  named_pairs : (ps : List (ℕ × ℤ)) → AreSmall ps → AllNamed can ps × (named_mass name ps ≤ length ps * 2000000000)
  named_pairs [] h = (tt, omega arith)
  named_pairs (p ∷ ps) h =
      let one = named p.0 in
      let more = named_pairs ps h.1 in
      ((one.0, more.0), omega (arith, mul-le (unsigned_abs p.1) (weight (name p.0)) 1000000000 2 h.0 one.1, more.1))

  few_named : (m n r : ℕ) → m ≤ n * 2000000000 → n ≤ 256 → r ≤ 1000000000000000 → m + r ≤ 1000512000000000
  few_named m n r h k l = omega arith

  named_light : (t : Linear) → IsTermOver ranges t → IsNameable can name t × (named_weight name t ≤ 1000512000000000)
  named_light t h =
      let pairs = named_pairs t.pairs h.small.0 in
      let few = few_named (named_mass name t.pairs) (length t.pairs) (unsigned_abs t.rest) pairs.1 h.short h.small.1 in
      (record { named = pairs.0; light = omega (arith, few) }, few)

  pub nameable : (c : Claim) → EachTerm (IsTermOver ranges) c → IsNameableClaim can name c
  nameable True h = tt
  nameable False h = tt
  nameable (Le t) h = (named_light t h).0
  nameable (Eq t) h = (named_light t h).0
  nameable (Ne t) h = (named_light t h).0
  nameable (And a b) h = (nameable a h.0, nameable b h.1)
  nameable (Or a b) h = (nameable a h.0, nameable b h.1)
  nameable (Not a) h = nameable a h

  named_weights : (c : Claim) → EachTerm (IsTermOver ranges) c → EachTerm (λ t. named_weight name t ≤ 1000512000000000) c
  named_weights True h = tt
  named_weights False h = tt
  named_weights (Le t) h = (named_light t h).1
  named_weights (Eq t) h = (named_light t h).1
  named_weights (Ne t) h = (named_light t h).1
  named_weights (And a b) h = (named_weights a h.0, named_weights b h.1)
  named_weights (Or a b) h = (named_weights a h.0, named_weights b h.1)
  named_weights (Not a) h = named_weights a h

  light_named : (c : Claim) → EachTerm (IsTermOver ranges) c → IsLight (named_claim name c)
  light_named c h = lighter (named_claim name c) (weight-named_claim name 1000512000000000 c (named_weights c h))
    where
      lighter : (d : Claim) → EachTerm (λ t. weight t ≤ 1000512000000000) d → IsLight d
      lighter True h = tt
      lighter False h = tt
      lighter (Le t) h = omega (arith, h)
      lighter (Eq t) h = omega (arith, h)
      lighter (Ne t) h = omega (arith, h)
      lighter (And a b) h = (lighter a h.0, lighter b h.1)
      lighter (Or a b) h = (lighter a h.0, lighter b h.1)
      lighter (Not a) h = lighter a h

nodes-named : (name : ℕ → Linear) (c : Claim) → nodes_of (named_claim name c) ≡ nodes_of c
nodes-named name True = omega arith
nodes-named name False = omega arith
nodes-named name (Le t) = omega arith
nodes-named name (Eq t) = omega arith
nodes-named name (Ne t) = omega arith
nodes-named name (And a b) = omega (arith, nodes-named name a, nodes-named name b)
nodes-named name (Or a b) = omega (arith, nodes-named name a, nodes-named name b)
nodes-named name (Not a) = omega (arith, nodes-named name a)

-- ---- what stands for a cell

either_light : (b : Bool) (s t : Linear) → weight s ≤ 2 → weight t ≤ 2 → weight (if b then s else t) ≤ 2
either_light true s t h k = h
either_light false s t h k = k

pub equal_named : (v : ℕ) → ⊤ × (weight (equal_name v) ≤ 2)
equal_named v = (tt, either_light (nat_lt v 16) (variable_of v) (variable_of (v - 16)) (omega arith) (omega arith))

stepped_light : (kind : CellKind) (up : Bool) (v : ℕ) → weight (stepped_name kind up v) ≤ 2
stepped_light Counter true v = omega (arith, weight-sum_of (variable_of v) (constant_of (pos 1)))
stepped_light Counter false v = omega (arith, weight-difference_of (variable_of v) (constant_of (pos 1)))
stepped_light Peak up v = omega (arith, weight-sum_of (variable_of v) (constant_of (pos 1)))
stepped_light Flag up v = omega arith

pub step_named : (kind : CellKind) (step : Direction) → step.cell < 16 → (v : ℕ) → (step.cell < 16) × (weight (step_name kind step v) ≤ 2)
step_named kind step h v = (h, either_light (v == there_variable step.cell) (stepped_name kind step.up v) (variable_of v) (stepped_light kind step.up v) (omega arith))

-- ---- the formulas

pub equal_light : (kinds : List CellKind) (guard : Claim) → IsGuard kinds guard → IsLight (equal_claim kinds guard)
equal_light kinds guard g = (with_kinds-light kinds 0 True tt, light_named (λ v. ⊤) equal_name (guard_variables kinds) equal_named guard g.over.terms)

pub equal_nodes : (kinds : List CellKind) (guard : Claim) → IsGuard kinds guard → nodes_of (equal_claim kinds guard) ≤ most_formula
equal_nodes kinds guard g = omega (arith, with_kinds-nodes kinds 0 True, nodes-named equal_name guard, g.few, g.over.few)

pub step_light : (kinds : List CellKind) (guard : Claim) (kind : CellKind) (step : Direction) → IsGuard kinds guard → step.cell < 16 → IsLight (step_claim kinds guard kind step)
step_light kinds guard kind step g h = (
  (with_kinds-light kinds 0 True tt, with_kinds-light kinds 16 True tt),
  (light_guard (guard_variables kinds) guard g.over.terms, light_named (λ v. step.cell < 16) (step_name kind step) (guard_variables kinds) (step_named kind step h) guard g.over.terms),
)

pub step_nodes : (kinds : List CellKind) (guard : Claim) (kind : CellKind) (step : Direction) → IsGuard kinds guard → nodes_of (step_claim kinds guard kind step) ≤ most_formula
step_nodes kinds guard kind step g = omega (arith, with_kinds-nodes kinds 0 True, with_kinds-nodes kinds 16 True, nodes-named (step_name kind step) guard, g.few, g.over.few)
