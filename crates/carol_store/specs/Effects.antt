-- Which lists of atoms are effects, and which fit a shape.
use Rattle.std.specs.Prelude.{ℕ, ◌+◌, ◌≤◌, zero, suc, List, [], ◌∷◌, ℤ}
use Rattle.carol_store.specs.declared.shape.CellKind.{CellKind}
use Rattle.carol_store.specs.declared.effect.Atom.{Atom}
use Rattle.carol_store.specs.Kinds.{IsAmount}

-- the cells ascend strictly, the first being this one or above
abbrev pub AscendsFrom : ℕ → List Atom → Type 0
AscendsFrom least [] = Unit {0}
AscendsFrom least (atom ∷ atoms) = (least ≤ atom.cell) × AscendsFrom (atom.cell + 1) atoms

-- the cells ascend strictly
abbrev pub Ascends : List Atom → Type 0
Ascends atoms = AscendsFrom 0 atoms

-- the shape has the cell, where an atom may have this value
abbrev pub IsAmountAt : List CellKind → ℕ → ℤ → Type 0
IsAmountAt [] cell amount = ⊥
IsAmountAt (kind ∷ kinds) zero amount = IsAmount kind amount
IsAmountAt (kind ∷ kinds) (suc cell) amount = IsAmountAt kinds cell amount

-- the atom fits the shape
abbrev pub IsAtomOf : List CellKind → Atom → Type 0
IsAtomOf shape atom = IsAmountAt shape atom.cell atom.value

-- each atom fits the shape
abbrev pub AreAtomsOf : List CellKind → List Atom → Type 0
AreAtomsOf shape [] = Unit {0}
AreAtomsOf shape (atom ∷ atoms) = IsAtomOf shape atom × AreAtomsOf shape atoms

-- the atoms are an effect that fits the shape
abbrev pub IsEffect : List CellKind → List Atom → Type 0
IsEffect shape atoms = Ascends atoms × AreAtomsOf shape atoms
