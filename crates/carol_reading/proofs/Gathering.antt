-- How an issue's parts are gathered into an effect, cell by cell.
use Rattle.std.proofs.Common.{ℕ, zero, suc, ◌+◌, ◌≤◌, ◌<◌, ◌≡◌, Bool, true, false, List, [], ◌∷◌, ◌++◌, length, arith, refl, sym, ◌∙◌, subst, append-nil}
use Rattle.std.specs.Prelude.{ℤ, Option, Some, None, if◌then◌else◌, ◌==◌, unsigned_abs}
use Rattle.std.specs.Int.{w64}
use Rattle.std.proofs.lemmas.Int.{fits_signed_from_abs}
use Rattle.carol_store.specs.declared.shape.CellKind.{CellKind}
use Rattle.carol_store.specs.declared.shape.CellKind.TheVariants.{Counter, Peak, Flag}
use Rattle.carol_store.specs.declared.effect.Atom.{Atom}
use Rattle.carol_store.specs.Effects.{AscendsFrom, IsAmountAt, AreAtomsOf, IsEffect}
use Rattle.carol_store.specs.Kinds.{IsWord, IsAmount}
use Rattle.carol_formula.specs.Linear.{Linear}
use Rattle.carol_formula.specs.Value.{Fits, value_at}
use Rattle.carol_program.specs.declared.steps.Part.{Part}
use Rattle.carol_reading.specs.Parts.{AmountsFit, CanPut}
use Rattle.carol_reading.specs.Readings.{amount_for, before_atoms, effect_from, effect_of}

-- ---- amounts fit words

word-amount : (kind : CellKind) (amount : ℤ) → IsAmount kind amount → IsWord amount
word-amount Counter amount h = fits_signed_from_abs w64 amount (omega (arith, h))
word-amount Peak amount h = fits_signed_from_abs w64 amount (omega (arith, h))
word-amount Flag amount h = fits_signed_from_abs w64 amount (subst (λ z. unsigned_abs z < 9223372036854775808) (sym h) (omega arith))

word-amount_at : (kinds : List CellKind) (cell : ℕ) (amount : ℤ) → IsAmountAt kinds cell amount → IsWord amount
word-amount_at [] cell amount h = absurd h
word-amount_at (kind ∷ kinds) zero amount h = word-amount kind amount h
word-amount_at (kind ∷ kinds) (suc cell) amount h = word-amount_at kinds cell amount h

amount_fits : (f : ℕ → ℤ) (cell : ℕ) (parts : List Part) (t : Linear) → AmountsFit f parts → amount_for cell parts ≡ Some t → Fits t f
amount_fits f cell [] t h e = absurd (none e)
  where
    none : None ≡ Some t → ⊥
    none q = cc
amount_fits f cell (p ∷ ps) t h e = chosen (p.cell == cell) (amount_for cell ps) p.amount t h.0 (amount_fits f cell ps t h.1) e
  where
    inside : (u v : Linear) → Some u ≡ Some v → u ≡ v
    inside u v w = cc

    chosen : (b : Bool) (o : Option Linear) (u v : Linear) → Fits u f → (o ≡ Some v → Fits v f) → (if b then Some u else o) ≡ Some v → Fits v f
    chosen true o u v g k q = subst (λ z. Fits z f) (inside u v q) g
    chosen false o u v g k q = k q

-- ---- cell by cell

-- the atoms so far, and the cells that are left
pub record Gathers (kinds : List CellKind) (parts : List Part) (f : ℕ → ℤ) (atoms : List Atom) (cell : ℕ) (left : List CellKind) : Type 0 where
  pub same : atoms ++ effect_from cell left parts f ≡ effect_of kinds parts f
  pub fit : AmountsFit f parts
  pub atoms_left : AreAtomsOf kinds (effect_from cell left parts f)
  pub few : length atoms ≤ cell
  pub cells : cell + length left ≡ length kinds

pub gathers_can : {kinds : List CellKind} {parts : List Part} {f : ℕ → ℤ} {atoms : List Atom} (cell : ℕ) {left : List CellKind} (kind : CellKind) (more : List CellKind) → Gathers kinds parts f atoms cell left → left ≡ kind ∷ more → CanPut f (amount_for cell parts)
gathers_can {kinds = kinds} {parts = parts} {f = f} {atoms = atoms} cell kind more g e = can (amount_for cell parts) refl (subst (Gathers kinds parts f atoms cell) e g).atoms_left
  where
    can : (o : Option Linear) → amount_for cell parts ≡ o → AreAtomsOf kinds (before_atoms cell o f (effect_from (cell + 1) more parts f)) → CanPut f o
    can None q h = tt
    can (Some t) q h = (amount_fits f cell parts t g.fit q, word-amount_at kinds cell (value_at t f) h.0)

-- ---- the cells of the atoms ascend

lower : (low : ℕ) (atoms : List Atom) → AscendsFrom (low + 1) atoms → AscendsFrom low atoms
lower low [] h = tt
lower low (atom ∷ atoms) h = (omega (arith, h.0), h.1)

with_first : (cell : ℕ) (o : Option Linear) (f : ℕ → ℤ) (rest : List Atom) → AscendsFrom (cell + 1) rest → AscendsFrom cell (before_atoms cell o f rest)
with_first cell None f rest h = lower cell rest h
with_first cell (Some t) f rest h = (omega arith, h)

ascends : (cell : ℕ) (kinds : List CellKind) (parts : List Part) (f : ℕ → ℤ) → AscendsFrom cell (effect_from cell kinds parts f)
ascends cell [] parts f = tt
ascends cell (kind ∷ kinds) parts f = with_first cell (amount_for cell parts) f (effect_from (cell + 1) kinds parts f) (ascends (cell + 1) kinds parts f)

-- what was gathered when no cell is left
pub gathers_end : {kinds : List CellKind} {parts : List Part} {f : ℕ → ℤ} {atoms : List Atom} (cell : ℕ) (left : List CellKind) → Gathers kinds parts f atoms cell left → length left ≡ 0 → atoms ≡ effect_of kinds parts f
gathers_end {atoms = atoms} cell [] g e = sym (append-nil atoms) ∙ g.same
gathers_end cell (kind ∷ more) g e = absurd (omega arith)

pub effect-gathered : (kinds : List CellKind) (parts : List Part) (f : ℕ → ℤ) (atoms : List Atom) → atoms ≡ effect_of kinds parts f → AreAtomsOf kinds (effect_of kinds parts f) → IsEffect kinds atoms
effect-gathered kinds parts f atoms e h = subst (IsEffect kinds) (sym e) (ascends 0 kinds parts f, h)
