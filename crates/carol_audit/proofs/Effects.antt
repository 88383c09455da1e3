-- The atoms of an effect, and the values of a store.
use Rattle.std.proofs.Common.{◌≡◌, ℕ, zero, suc, ◌+◌, ◌<◌, ◌≤◌, List, [], ◌∷◌, ◌++◌, length, refl, arith}
use Rattle.std.specs.Prelude.{ℤ, pos, negsuc, unsigned_abs}
use Rattle.std.specs.List.{AllByRecursion}
use Rattle.std.proofs.lemmas.List.Elements.{All-head, All-tail}
use Rattle.carol_store.specs.declared.shape.CellKind.{CellKind}
use Rattle.carol_store.specs.declared.shape.CellKind.TheVariants.{Counter, Peak, Flag}
use Rattle.carol_store.specs.declared.effect.Atom.{Atom}
use Rattle.carol_store.specs.Effects.{AreAtomsOf, AscendsFrom, IsAmountAt, IsEffect}
use Rattle.carol_store.specs.Kinds.{CellValue, IsAmount}
use Rattle.carol_store.specs.Stores.{IsStore}
use Rattle.carol_event.specs.Numbers.{Each, IsAtom, IsValue}
use Rattle.carol_history.specs.Laws.{IsLow}

-- ---- values

pub value_fits : (z : ℤ) → unsigned_abs z < 9223372036854775808 → IsValue z
value_fits (pos n) h = omega arith
value_fits (negsuc n) h = omega arith

pub low_fit : (store : List CellValue) → IsLow store → Each IsValue store
low_fit [] h = tt
low_fit (value ∷ store) h =
    let low : ℤ → Type 0 = λ v. unsigned_abs v < 140_000_000_000_000
    in (value_fits value (omega (arith, All-head low value store h)), low_fit store (All-tail low value store h))

pub store_short : (kinds : List CellKind) (store : List CellValue) → IsStore kinds store → length store ≡ length kinds
store_short [] [] h = refl
store_short [] (value ∷ store) h = absurd h
store_short (kind ∷ kinds) [] h = absurd h
store_short (kind ∷ kinds) (value ∷ store) h = omega (arith, store_short kinds store h.1)

-- ---- atoms

amount_fits : (kind : CellKind) (z : ℤ) → IsAmount kind z → IsValue z
amount_fits Counter z h = value_fits z (omega (arith, h))
amount_fits Peak z h = value_fits z (omega (arith, h))
amount_fits Flag z h = rw h (value_fits (pos 1) (omega arith))

cell_fits : (kinds : List CellKind) (cell : ℕ) (z : ℤ) → IsAmountAt kinds cell z → (cell < length kinds) × IsValue z
cell_fits [] cell z h = absurd h
cell_fits (kind ∷ kinds) zero z h = (omega arith, amount_fits kind z h)
cell_fits (kind ∷ kinds) (suc cell) z h = let r = cell_fits kinds cell z h in (omega (arith, r.0), r.1)

pub atoms_fit : (kinds : List CellKind) (atoms : List Atom) → length kinds ≤ 16 → AreAtomsOf kinds atoms → Each IsAtom atoms
atoms_fit kinds [] few h = tt
atoms_fit kinds (atom ∷ atoms) few h =
    let here = cell_fits kinds atom.cell atom.value h.0
    in ((omega (arith, here.0), here.1), atoms_fit kinds atoms few h.1)

atoms_above : (kinds : List CellKind) (least : ℕ) (atoms : List Atom) → AscendsFrom least atoms → AreAtomsOf kinds atoms → least ≤ length kinds → least + length atoms ≤ length kinds
atoms_above kinds least [] up h low = omega arith
atoms_above kinds least (atom ∷ atoms) up h low =
    let here = cell_fits kinds atom.cell atom.value h.0
    in omega (arith, up.0, atoms_above kinds (atom.cell + 1) atoms up.1 h.1 (omega (arith, here.0)))

pub atoms_few : (kinds : List CellKind) (atoms : List Atom) → IsEffect kinds atoms → length atoms ≤ length kinds
atoms_few kinds atoms h = omega (arith, atoms_above kinds 0 atoms h.0 h.1 (omega arith))

-- the last effect of several
pub last_effect : (kinds : List CellKind) (effects : List (List Atom)) (effect : List Atom) → AllByRecursion (IsEffect kinds) (effects ++ effect ∷ []) → IsEffect kinds effect
last_effect kinds [] effect h = h.0
last_effect kinds (e ∷ effects) effect h = last_effect kinds effects effect h.1
