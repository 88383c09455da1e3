-- One cell of a store.
use Rattle.std.proofs.Common.{◌≡◌, ℕ, ◌+◌, ◌<◌, ◌≤◌, zero, suc, List, [], ◌∷◌, length, ℤ, get_or, set, refl, sym, subst, ap, append-nil, arith}
use Rattle.std.specs.List.{refill}
use Rattle.std.proofs.Math.Seq.{take-length, drop-length}
use Rattle.carol_store.specs.declared.shape.CellKind.{CellKind}
use Rattle.carol_store.specs.declared.effect.Atom.{Atom}
use Rattle.carol_store.specs.Effects.{AreAtomsOf, AscendsFrom, IsAmountAt}
use Rattle.carol_store.specs.Kinds.{CellValue, IsWord, MayHold}
use Rattle.carol_store.specs.Stores.{IsStore, AreWords, at_cell}

-- a store has as many cells as its shape
pub length-IsStore : (shape : List CellKind) (store : List CellValue) → IsStore shape store → length store ≡ length shape
length-IsStore [] [] h = refl
length-IsStore (kind ∷ kinds) (value ∷ values) h = ap suc (length-IsStore kinds values h.1)
length-IsStore [] (value ∷ values) h = absurd h
length-IsStore (kind ∷ kinds) [] h = absurd h

-- an atom's cell is in the shape
pub cell_in_shape : (shape : List CellKind) (cell : ℕ) (amount : ℤ) → IsAmountAt shape cell amount → cell < length shape
cell_in_shape [] cell amount h = absurd h
cell_in_shape (kind ∷ kinds) zero amount h = omega arith
cell_in_shape (kind ∷ kinds) (suc cell) amount h = omega (arith, cell_in_shape kinds cell amount h)

-- an effect has at most one atom for each cell
pub length-AscendsFrom : (shape : List CellKind) (least : ℕ) (atoms : List Atom) → AscendsFrom least atoms → AreAtomsOf shape atoms → least ≤ length shape → least + length atoms ≤ length shape
length-AscendsFrom shape least [] h fit within = omega arith
length-AscendsFrom shape least (atom ∷ atoms) h fit within =
    let inside : atom.cell < length shape = cell_in_shape shape atom.cell atom.value fit.0
    in let rest : atom.cell + 1 + length atoms ≤ length shape = length-AscendsFrom shape (atom.cell + 1) atoms h.1 fit.1 (omega arith)
    in omega arith

-- a change of one cell is one write
pub at_cell-set : (f : CellKind → CellValue → CellValue) (shape : List CellKind) (cell : ℕ) (store : List CellValue) (kind : CellKind) (value : CellValue) → IsStore shape store → cell < length shape → set store cell (f (get_or shape cell kind) (get_or store cell value)) ≡ at_cell f shape cell store
at_cell-set f [] cell store k v h inside = absurd (omega arith)
at_cell-set f (kind ∷ kinds) cell [] k v h inside = absurd h
at_cell-set f (kind ∷ kinds) zero (value ∷ values) k v h inside = refl
at_cell-set f (kind ∷ kinds) (suc cell) (value ∷ values) k v h inside = ap (λ (rest : List CellValue). value ∷ rest) (at_cell-set f kinds cell values k v h.1 (omega arith))

-- what is written fits its word where the changed store does
pub IsWord-at_cell : (f : CellKind → CellValue → CellValue) (shape : List CellKind) (cell : ℕ) (store : List CellValue) (kind : CellKind) (value : CellValue) → IsStore shape store → cell < length shape → AreWords (at_cell f shape cell store) → IsWord (f (get_or shape cell kind) (get_or store cell value))
IsWord-at_cell f [] cell store k v h inside words = absurd (omega arith)
IsWord-at_cell f (kind ∷ kinds) cell [] k v h inside words = absurd h
IsWord-at_cell f (kind ∷ kinds) zero (value ∷ values) k v h inside words = words.0
IsWord-at_cell f (kind ∷ kinds) (suc cell) (value ∷ values) k v h inside words = IsWord-at_cell f kinds cell values k v h.1 (omega arith) words.1

-- a write through a slice leaves the slice
pub refill-same : (before after : List CellValue) → length after ≡ length before → refill (length before) before after ≡ after
refill-same before after same = rw (same, drop-length, append-nil, ← same, take-length)

-- a change keeps a store a store where what it makes of a cell is a value of its kind
pub IsStore-at_cell : (f : CellKind → CellValue → CellValue) → ((kind : CellKind) (value : CellValue) → MayHold kind (f kind value)) → (shape : List CellKind) (cell : ℕ) (store : List CellValue) → IsStore shape store → IsStore shape (at_cell f shape cell store)
IsStore-at_cell f may [] cell [] h = tt
IsStore-at_cell f may [] cell (value ∷ values) h = absurd h
IsStore-at_cell f may (kind ∷ kinds) cell [] h = absurd h
IsStore-at_cell f may (kind ∷ kinds) zero (value ∷ values) h = (may kind value, h.1)
IsStore-at_cell f may (kind ∷ kinds) (suc cell) (value ∷ values) h = (h.0, IsStore-at_cell f may kinds cell values h.1)

-- a word before words
pub AreWords-before : (values : List CellValue) (value : CellValue) (more : List CellValue) → values ≡ value ∷ more → IsWord value → AreWords more → AreWords values
AreWords-before values value more e h g = subst AreWords (sym e) (h, g)
