-- What a store of a shape is, and what an effect makes of it.
use Rattle.std.specs.Prelude.{ℕ, zero, suc, List, [], ◌∷◌}
use Rattle.carol_store.specs.declared.shape.CellKind.{CellKind}
use Rattle.carol_store.specs.declared.effect.Atom.{Atom}
use Rattle.carol_store.specs.Actions.{act_all}
use Rattle.carol_store.specs.Kinds.{CellValue, IsWord, MayHold, changed}

-- the store gives each cell of the shape one value that it may hold
abbrev pub IsStore : List CellKind → List CellValue → Type 0
IsStore [] [] = Unit {0}
IsStore (kind ∷ kinds) (value ∷ values) = MayHold kind value × IsStore kinds values
IsStore [] (value ∷ values) = ⊥
IsStore (kind ∷ kinds) [] = ⊥

-- the store with one cell as f makes it, by the cell's kind, and all others as they were
abbrev pub at_cell :
    (CellKind → CellValue → CellValue) → List CellKind → ℕ → List CellValue → List CellValue
at_cell f (kind ∷ kinds) zero (value ∷ values) = f kind value ∷ values
at_cell f (kind ∷ kinds) (suc cell) (value ∷ values) = value ∷ at_cell f kinds cell values
at_cell f [] cell values = values
at_cell f (kind ∷ kinds) cell [] = []

-- the store after one atom
abbrev pub with_cell : List CellKind → Atom → List CellValue → List CellValue
with_cell shape atom store =
    at_cell (λ kind value. changed kind value atom.value) shape atom.cell store

-- the store after each atom of an effect
abbrev pub apply : List CellKind → List Atom → List CellValue → List CellValue
apply shape atoms store = act_all (with_cell shape) atoms store

-- the store after one effect after another
abbrev pub apply_all : List CellKind → List (List Atom) → List CellValue → List CellValue
apply_all shape effects store = act_all (apply shape) effects store

-- each value fits its word
abbrev pub AreWords : List CellValue → Type 0
AreWords [] = Unit {0}
AreWords (value ∷ values) = IsWord value × AreWords values

-- no cell leaves its word while the atoms are applied
abbrev pub StaysInWords : List CellKind → List Atom → List CellValue → Type 0
StaysInWords shape [] store = Unit {0}
StaysInWords shape (atom ∷ atoms) store =
    AreWords (with_cell shape atom store) × StaysInWords shape atoms (with_cell shape atom store)

-- nor while the effects are applied one after another
abbrev pub StayInWords : List CellKind → List (List Atom) → List CellValue → Type 0
StayInWords shape [] store = Unit {0}
StayInWords shape (effect ∷ effects) store =
    StaysInWords shape effect store × StayInWords shape effects (apply shape effect store)
