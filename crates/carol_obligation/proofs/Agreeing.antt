-- Terms, formulas and effects are the same where the variables that they may use have the same numbers.
use Rattle.std.proofs.Common.{◌≡◌, ℕ, ◌+◌, Bool, true, false, List, [], ◌∷◌, refl, ◌∙◌, ap}
use Rattle.std.specs.Prelude.{ℤ, ◌+ℤ◌, ◌*ℤ◌, ◌==◌, ◌&&◌, ◌||◌, not, if◌then◌else◌, Option, Some, None, IfSome}
use Rattle.std.specs.List.{AllByRecursion}
use Rattle.carol_store.specs.declared.shape.CellKind.{CellKind}
use Rattle.carol_store.specs.declared.effect.Atom.{Atom}
use Rattle.carol_formula.specs.Claim.{Claim, True, False, Le, Eq, Ne, And, Or, Not, EachTerm, is_at_most_zero, truth}
use Rattle.carol_formula.specs.Linear.{Linear, is_zero}
use Rattle.carol_formula.specs.Value.{sum_at, value_at}
use Rattle.carol_program.specs.declared.steps.Part.{Part}
use Rattle.carol_program.specs.Variables.{IsAmong, AreAmong}
use Rattle.carol_program.specs.WellFormed.{IsTermOver, IsPartOver}
use Rattle.carol_reading.specs.Readings.{amount_for, before_atoms, effect_from, effect_of}

-- the variables in the ranges have the same numbers
abbrev pub AgreeOn : List (ℕ × ℕ) → (ℕ → ℤ) → (ℕ → ℤ) → Type 0
AgreeOn ranges f g = (v : ℕ) → IsAmong ranges v → f v ≡ g v

either-over : (ranges : List (ℕ × ℕ)) (b : Bool) (t : Linear) (o : Option Linear) → IsTermOver ranges t → IfSome o (IsTermOver ranges) → IfSome (if b then Some t else o) (IsTermOver ranges)
either-over ranges true t o k l = k
either-over ranges false t o k l = l

chosen-over : (kinds : List CellKind) (ranges : List (ℕ × ℕ)) (cell : ℕ) (parts : List Part) → AllByRecursion (IsPartOver kinds ranges) parts → IfSome (amount_for cell parts) (IsTermOver ranges)
chosen-over kinds ranges cell [] h = tt
chosen-over kinds ranges cell (p ∷ ps) h = either-over ranges (p.cell == cell) p.amount (amount_for cell ps) h.0.1 (chosen-over kinds ranges cell ps h.1)

module _ (ranges : List (ℕ × ℕ)) (f g : ℕ → ℤ) (same : AgreeOn ranges f g) where
  sum_at-same : (ps : List (ℕ × ℤ)) → AreAmong ranges ps → sum_at ps f ≡ sum_at ps g
  sum_at-same [] h = refl
  sum_at-same (p ∷ ps) h = ap (λ z. (p.1 *ℤ z) +ℤ sum_at ps f) (same p.0 h.0) ∙ ap (λ z. (p.1 *ℤ g p.0) +ℤ z) (sum_at-same ps h.1)

  pub value_at-same : (t : Linear) → IsTermOver ranges t → value_at t f ≡ value_at t g
  value_at-same t h = ap (λ z. z +ℤ t.rest) (sum_at-same t.pairs h.variables)

  pub truth-same : (c : Claim) → EachTerm (IsTermOver ranges) c → truth c f ≡ truth c g
  truth-same True h = refl
  truth-same False h = refl
  truth-same (Le t) h = ap is_at_most_zero (value_at-same t h)
  truth-same (Eq t) h = ap is_zero (value_at-same t h)
  truth-same (Ne t) h = ap (λ z. not (is_zero z)) (value_at-same t h)
  truth-same (And a b) h = ap (λ x. x && truth b f) (truth-same a h.0) ∙ ap (λ y. truth a g && y) (truth-same b h.1)
  truth-same (Or a b) h = ap (λ x. x || truth b f) (truth-same a h.0) ∙ ap (λ y. truth a g || y) (truth-same b h.1)
  truth-same (Not a) h = ap not (truth-same a h)

  -- ---- effects

  module _ (kinds : List CellKind) (parts : List Part) (over : AllByRecursion (IsPartOver kinds ranges) parts) where
    before_atoms-same : (cell : ℕ) (amount : Option Linear) (atoms others : List Atom) → IfSome amount (IsTermOver ranges) → atoms ≡ others → before_atoms cell amount f atoms ≡ before_atoms cell amount g others
    before_atoms-same cell None atoms others h e = e
    before_atoms-same cell (Some t) atoms others h e = ap (λ (z : ℤ). record { cell = cell; value = z } ∷ atoms) (value_at-same t h) ∙ ap (λ (more : List Atom). record { cell = cell; value = value_at t g } ∷ more) e

    effect_from-same : (cell : ℕ) (left : List CellKind) → effect_from cell left parts f ≡ effect_from cell left parts g
    effect_from-same cell [] = refl
    effect_from-same cell (kind ∷ left) = before_atoms-same cell (amount_for cell parts) _ _ (chosen-over kinds ranges cell parts over) (effect_from-same (cell + 1) left)

    pub effect_of-same : effect_of kinds parts f ≡ effect_of kinds parts g
    effect_of-same = effect_from-same 0 kinds
