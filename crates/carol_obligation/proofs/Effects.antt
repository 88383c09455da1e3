-- The cells of a store after an issue, and the terms of a place that stand for them.
use Rattle.std.proofs.Common.{◌≡◌, ◌≢◌, ℕ, zero, suc, ◌+◌, ◌<◌, ◌≤◌, inl, inr, List, [], ◌∷◌, length, arith, refl, sym, ◌∙◌, ap, subst}
use Rattle.std.specs.Prelude.{ℤ, pos, ◌+ℤ◌, ◌==◌, Option, Some, None, IfSome, slice_get}
use Rattle.std.proofs.Math.Logic.{⊎_elim}
use Rattle.std.proofs.lemmas.Bool.{cases_eq, cond_both, eqb-true}
use Rattle.carol_store.specs.declared.shape.CellKind.{CellKind}
use Rattle.carol_store.specs.declared.shape.CellKind.TheVariants.{Counter, Peak, Flag}
use Rattle.carol_store.specs.declared.effect.Atom.{Atom}
use Rattle.carol_store.specs.Kinds.{CellValue, changed}
use Rattle.carol_store.specs.Stores.{apply, at_cell}
use Rattle.carol_formula.specs.Linear.{Linear, variable_of}
use Rattle.carol_formula.specs.Value.{value_at}
use Rattle.carol_formula.proofs.Sums.{value_at-sum_of}
use Rattle.carol_formula.specs.Named.{through}
use Rattle.carol_program.specs.declared.steps.Part.{Part}
use Rattle.carol_program.specs.Variables.{invariant_variables, number_in, store_at}
use Rattle.carol_reading.specs.Readings.{amount_for, before_atoms, effect_from, effect_of}
use Rattle.carol_obligation.specs.Decoded.{round_variable}
use Rattle.carol_obligation.specs.Breaches.{AreTied}
use Rattle.carol_obligation.specs.Formed.{after_name, cell_name}
use Rattle.carol_obligation.proofs.Agreeing.{AgreeOn}
use Rattle.carol_obligation.proofs.Seen.{length-store_at}
use Rattle.carol_obligation.proofs.TruthForms.{value_at-variable, value_at-constant}
use Rattle.carol_obligation.proofs.Numbers.{worth-round}

-- ---- one cell changed

module _ (change : CellKind → CellValue → CellValue) where
  length-at_cell : (kinds : List CellKind) (cell : ℕ) (store : List CellValue) → length (at_cell change kinds cell store) ≡ length store
  length-at_cell [] cell store = refl
  length-at_cell (kind ∷ kinds) cell [] = refl
  length-at_cell (kind ∷ kinds) zero (value ∷ values) = refl
  length-at_cell (kind ∷ kinds) (suc cell) (value ∷ values) = ap suc (length-at_cell kinds cell values)

  other-at_cell : (kinds : List CellKind) (cell v : ℕ) (store : List CellValue) → cell ≢ v → number_in (at_cell change kinds cell store) v ≡ number_in store v
  other-at_cell [] cell v store n = refl
  other-at_cell (kind ∷ kinds) cell v [] n = refl
  other-at_cell (kind ∷ kinds) zero zero (value ∷ values) n = absurd (n refl)
  other-at_cell (kind ∷ kinds) zero (suc v) (value ∷ values) n = refl
  other-at_cell (kind ∷ kinds) (suc cell) zero (value ∷ values) n = refl
  other-at_cell (kind ∷ kinds) (suc cell) (suc v) (value ∷ values) n = other-at_cell kinds cell v values (λ e. n (ap suc e))

-- what is done to a cell of this kind
abbrev pub done : (ℕ → ℤ) → Option CellKind → Option Linear → ℤ → ℤ
done f kind None z = z
done f None (Some t) z = z
done f (Some kind) (Some t) z = changed kind z (value_at t f)

same-at_cell : (f : ℕ → ℤ) (t : Linear) (kinds : List CellKind) (cell : ℕ) (store : List CellValue) → length store ≡ length kinds → cell < length kinds → number_in (at_cell (λ kind value. changed kind value (value_at t f)) kinds cell store) cell ≡ done f (slice_get kinds cell) (Some t) (number_in store cell)
same-at_cell f t [] cell store e lt = absurd (omega arith)
same-at_cell f t (kind ∷ kinds) cell [] e lt = absurd (omega arith)
same-at_cell f t (kind ∷ kinds) zero (value ∷ values) e lt = refl
same-at_cell f t (kind ∷ kinds) (suc cell) (value ∷ values) e lt = same-at_cell f t kinds cell values (omega arith) (omega arith)

-- ---- a whole effect

module _ (kinds : List CellKind) (f : ℕ → ℤ) where
  -- the store after what is done to a cell
  abbrev with_done : ℕ → Option Linear → List CellValue → List CellValue
  with_done cell None store = store
  with_done cell (Some t) store = at_cell (λ kind value. changed kind value (value_at t f)) kinds cell store

  before-done : (cell : ℕ) (o : Option Linear) (atoms : List Atom) (store : List CellValue) → apply kinds (before_atoms cell o f atoms) store ≡ apply kinds atoms (with_done cell o store)
  before-done cell None atoms store = refl
  before-done cell (Some t) atoms store = refl

  length-done : (cell : ℕ) (o : Option Linear) (store : List CellValue) → length (with_done cell o store) ≡ length store
  length-done cell None store = refl
  length-done cell (Some t) store = length-at_cell _ kinds cell store

  other-done : (cell v : ℕ) (o : Option Linear) (store : List CellValue) → cell ≢ v → number_in (with_done cell o store) v ≡ number_in store v
  other-done cell v None store n = refl
  other-done cell v (Some t) store n = other-at_cell _ kinds cell v store n

  same-done : (cell : ℕ) (o : Option Linear) (store : List CellValue) → length store ≡ length kinds → cell < length kinds → number_in (with_done cell o store) cell ≡ done f (slice_get kinds cell) o (number_in store cell)
  same-done cell None store e lt = refl
  same-done cell (Some t) store e lt = same-at_cell f t kinds cell store e lt

  module _ (parts : List Part) where
    cells-before : (first v : ℕ) (left : List CellKind) (store : List CellValue) → v < first → number_in (apply kinds (effect_from first left parts f) store) v ≡ number_in store v
    cells-before first v [] store lt = refl
    cells-before first v (kind ∷ left) store lt =
        ap (λ (s : List CellValue). number_in s v) (before-done first (amount_for first parts) (effect_from (first + 1) left parts f) store)
        ∙ cells-before (first + 1) v left _ (omega arith) ∙ other-done first v (amount_for first parts) store (λ e. omega arith)

    cell-itself : (first v : ℕ) (left : List CellKind) (store : List CellValue) → first ≡ v → length store ≡ length kinds → v < length kinds →
        number_in (apply kinds (effect_from (first + 1) left parts f) (with_done first (amount_for first parts) store)) v ≡ done f (slice_get kinds v) (amount_for v parts) (number_in store v)
    cell-itself first v left store d e lt = cells-before (first + 1) v left _ (omega arith)
        ∙ subst (λ cell. number_in (with_done cell (amount_for cell parts) store) v ≡ done f (slice_get kinds v) (amount_for v parts) (number_in store v)) (sym d) (same-done v (amount_for v parts) store e lt)

    cells-among : (first v : ℕ) (left : List CellKind) (store : List CellValue) → first ≤ v → v < first + length left → length store ≡ length kinds → v < length kinds →
        number_in (apply kinds (effect_from first left parts f) store) v ≡ done f (slice_get kinds v) (amount_for v parts) (number_in store v)
    cells-among first v [] store low high e lt = absurd (omega arith)
    cells-among first v (kind ∷ left) store low high e lt =
        ap (λ (s : List CellValue). number_in s v) (before-done first (amount_for first parts) (effect_from (first + 1) left parts f) store)
        ∙ ⊎_elim (λ (d : first ≡ v). cell-itself first v left store d e lt)
        (λ (n : first ≢ v). cells-among (first + 1) v left (with_done first (amount_for first parts) store) (omega arith) (omega arith) (length-done first (amount_for first parts) store ∙ e) lt
        ∙ ap (done f (slice_get kinds v) (amount_for v parts)) (other-done first v (amount_for first parts) store n)) (cases_eq first v)

    cell-after : (store : List CellValue) (v : ℕ) → length store ≡ length kinds → v < length kinds → number_in (apply kinds (effect_of kinds parts f) store) v ≡ done f (slice_get kinds v) (amount_for v parts) (number_in store v)
    cell-after store v e lt = cells-among 0 v kinds store (omega arith) (omega arith) e lt

  -- ---- the terms of the cells

  -- a raised peak's own variable has its value afterwards
  tied-for : (after : List CellValue) (v : ℕ) (parts : List Part) → AreTied kinds after parts f → IfSome (amount_for v parts) (λ t. slice_get kinds v ≡ Some Peak → f v ≡ number_in after v)
  tied-for after v [] tied = tt
  tied-for after v (p ∷ ps) tied = cond_both (p.cell == v) (Some p.amount) (amount_for v ps) (λ o. IfSome o (λ t. slice_get kinds v ≡ Some Peak → f v ≡ number_in after v))
      (λ e. subst (λ cell. slice_get kinds cell ≡ Some Peak → f cell ≡ number_in after cell) (eqb-true p.cell v e) tied.0) (λ _. tied-for after v ps tied.1)

  worth-cell : (round v : ℕ) (kind : Option CellKind) (o : Option Linear) (z after : ℤ) → value_at (variable_of (round_variable round v)) f ≡ z → after ≡ done f kind o z → IfSome o (λ t. kind ≡ Some Peak → f v ≡ after) → value_at (cell_name round v kind o) f ≡ after
  worth-cell round v kind None z after own is tie = own ∙ sym is
  worth-cell round v None (Some t) z after own is tie = own ∙ sym is
  worth-cell round v (Some Counter) (Some t) z after own is tie = value_at-sum_of (variable_of (round_variable round v)) t f ∙ ap (λ y. y +ℤ value_at t f) own ∙ sym is
  worth-cell round v (Some Peak) (Some t) z after own is tie = value_at-variable v f ∙ tie refl
  worth-cell round v (Some Flag) (Some t) z after own is tie = value_at-constant (pos 1) f ∙ sym is

  module _ (parts : List Part) (round : ℕ) where
    -- the store of the round before the issue, and after it
    abbrev pub before : List CellValue
    before = store_at kinds (round_variable round 0) f

    abbrev pub after : List CellValue
    after = apply kinds (effect_of kinds parts f) before

    pub cell-done : (v : ℕ) → v < length kinds → number_in after v ≡ done f (slice_get kinds v) (amount_for v parts) (number_in before v)
    cell-done v lt = cell-after parts before v (length-store_at kinds (round_variable round 0) f) lt

    -- the terms have the numbers of the store after the effect
    pub after-agrees : AreTied kinds after parts f → AgreeOn (invariant_variables kinds) (through (after_name kinds parts round) f) (number_in after)
    after-agrees tied v (inl h) = worth-cell round v (slice_get kinds v) (amount_for v parts) (number_in before v) (number_in after v)
        (worth-round f kinds round v (omega (arith, h.1))) (cell-done v (omega (arith, h.1))) (tied-for after v parts tied)
    after-agrees tied v (inr h) = absurd h
