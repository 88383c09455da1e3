-- The atoms of an issue, and its parts.
use Rattle.std.proofs.Common.{◌≡◌, ℕ, zero, suc, ◌+◌, ◌<◌, ◌≤◌, List, [], ◌∷◌, length, arith, refl, sym, subst}
use Rattle.std.specs.Prelude.{◌≢◌, ℤ, ◌==◌, Option, Some, None, IfSome, slice_get}
use Rattle.std.specs.List.{AllByRecursion}
use Rattle.std.proofs.Math.Logic.{⊎_elim}
use Rattle.std.proofs.lemmas.Bool.{cases_eq, cond_both, eqb-true}
use Rattle.carol_store.specs.declared.shape.CellKind.{CellKind}
use Rattle.carol_store.specs.declared.effect.Atom.{Atom}
use Rattle.carol_store.specs.Effects.{AreAtomsOf, IsAmountAt}
use Rattle.carol_store.specs.Kinds.{IsAmount}
use Rattle.carol_formula.specs.Linear.{Linear}
use Rattle.carol_formula.specs.Value.{value_at}
use Rattle.carol_program.specs.declared.steps.Part.{Part}
use Rattle.carol_program.specs.WellFormed.{IsDoneTo, IsDoneAt, IsPartOver, AreApart}
use Rattle.carol_obligation.proofs.Parts.{IsFound, done-within, each-found}
use Rattle.carol_reading.specs.Readings.{amount_for, before_atoms, effect_from, effect_of}

-- the amount of the part may be an atom's
abbrev pub IsFine : List CellKind → (ℕ → ℤ) → Part → Type 0
IsFine kinds f part = IsAmountAt kinds part.cell (value_at part.amount f)

-- ---- a cell and its kind

-- a part's cell has a kind, to which this may be done
pub done-kind : (kinds : List CellKind) (cell : ℕ) (t : Linear) → IsDoneAt kinds cell t → (kind : CellKind) × (slice_get kinds cell ≡ Some kind) × IsDoneTo kind t
done-kind [] cell t h = absurd h
done-kind (kind ∷ kinds) zero t h = (kind, refl, h)
done-kind (kind ∷ kinds) (suc cell) t h = done-kind kinds cell t h

same-kind : (k l : CellKind) → Some k ≡ Some l → k ≡ l
same-kind k l e = cc

pub amount-of_kind : (kinds : List CellKind) (cell : ℕ) (kind : CellKind) (amount : ℤ) → slice_get kinds cell ≡ Some kind → IsAmountAt kinds cell amount → IsAmount kind amount
amount-of_kind [] cell kind amount e h = absurd h
amount-of_kind (k ∷ kinds) zero kind amount e h = subst (λ l. IsAmount l amount) (same-kind k kind e) h
amount-of_kind (k ∷ kinds) (suc cell) kind amount e h = amount-of_kind kinds cell kind amount e h

pub amount-at_kind : (kinds : List CellKind) (cell : ℕ) (kind : CellKind) (amount : ℤ) → slice_get kinds cell ≡ Some kind → IsAmount kind amount → IsAmountAt kinds cell amount
amount-at_kind [] cell kind amount e h = cc
amount-at_kind (k ∷ kinds) zero kind amount e h = subst (λ l. IsAmount l amount) (sym (same-kind k kind e)) h
amount-at_kind (k ∷ kinds) (suc cell) kind amount e h = amount-at_kind kinds cell kind amount e h

-- ---- from parts to atoms

module _ (kinds : List CellKind) (f : ℕ → ℤ) where
  chosen-fine : (cell : ℕ) (parts : List Part) → AllByRecursion (IsFine kinds f) parts → IfSome (amount_for cell parts) (λ t. IsAmountAt kinds cell (value_at t f))
  chosen-fine cell [] h = tt
  chosen-fine cell (p ∷ ps) h = cond_both (p.cell == cell) (Some p.amount) (amount_for cell ps) (λ o. IfSome o (λ t. IsAmountAt kinds cell (value_at t f)))
      (λ e. subst (λ c. IsAmountAt kinds c (value_at p.amount f)) (eqb-true p.cell cell e) h.0) (λ _. chosen-fine cell ps h.1)

  before-fine : (cell : ℕ) (o : Option Linear) (atoms : List Atom) → IfSome o (λ t. IsAmountAt kinds cell (value_at t f)) → AreAtomsOf kinds atoms → AreAtomsOf kinds (before_atoms cell o f atoms)
  before-fine cell None atoms h a = a
  before-fine cell (Some t) atoms h a = (h, a)

  from-fine : (cell : ℕ) (left : List CellKind) (parts : List Part) → AllByRecursion (IsFine kinds f) parts → AreAtomsOf kinds (effect_from cell left parts f)
  from-fine cell [] parts h = tt
  from-fine cell (kind ∷ left) parts h = before-fine cell (amount_for cell parts) (effect_from (cell + 1) left parts f) (chosen-fine cell parts h) (from-fine (cell + 1) left parts h)

  pub effect-fine : (parts : List Part) → AllByRecursion (IsFine kinds f) parts → AreAtomsOf kinds (effect_of kinds parts f)
  effect-fine parts h = from-fine 0 kinds parts h

-- ---- from atoms to parts

module _ (kinds : List CellKind) (parts : List Part) (f : ℕ → ℤ) where
  behind-first : (cell : ℕ) (o : Option Linear) (atoms : List Atom) → AreAtomsOf kinds (before_atoms cell o f atoms) → AreAtomsOf kinds atoms
  behind-first cell None atoms h = h
  behind-first cell (Some t) atoms h = h.1

  in-effect : (first cell : ℕ) (left : List CellKind) (t : Linear) → first ≤ cell → cell < first + length left → amount_for cell parts ≡ Some t → AreAtomsOf kinds (effect_from first left parts f) → IsAmountAt kinds cell (value_at t f)
  in-effect first cell [] t low high e h = absurd (omega arith)
  in-effect first cell (kind ∷ left) t low high e h = ⊎_elim
      (λ (same : first ≡ cell). (subst (λ o. AreAtomsOf kinds (before_atoms cell o f (effect_from (cell + 1) left parts f))) e (subst (λ c. AreAtomsOf kinds (effect_from c (kind ∷ left) parts f)) same h)).0)
      (λ (other : first ≢ cell). in-effect (first + 1) cell left t (omega arith) (omega arith) e (behind-first first (amount_for first parts) (effect_from (first + 1) left parts f) h))
      (cases_eq first cell)

-- what is known of the parts of each effect, where it is known of the effect
pub parts-fine : (kinds : List CellKind) (ranges : List (ℕ × ℕ)) (parts : List Part) → AllByRecursion (IsPartOver kinds ranges) parts → AreApart parts →
    AllByRecursion (λ part. (f : ℕ → ℤ) → AreAtomsOf kinds (effect_of kinds parts f) → IsFine kinds f part) parts
parts-fine kinds ranges parts over apart = both parts over (each-found parts apart)
  where
    both : (ps : List Part) → AllByRecursion (IsPartOver kinds ranges) ps → AllByRecursion (IsFound parts) ps → AllByRecursion (λ part. (f : ℕ → ℤ) → AreAtomsOf kinds (effect_of kinds parts f) → IsFine kinds f part) ps
    both [] o h = tt
    both (p ∷ ps) o h = (
      (λ f atoms. in-effect kinds parts f 0 p.cell kinds p.amount (omega arith) (omega (arith, done-within kinds p.cell p.amount o.0.0)) h.0 atoms),
      both ps o.1 h.1,
    )
