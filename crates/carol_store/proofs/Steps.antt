-- What single steps keep, an effect keeps.
use Rattle.std.proofs.Common.{◌≡◌, ℕ, zero, suc, Bool, true, List, [], ◌∷◌, ℤ, Option, Some, None, refl, sym, ◌∙◌, ap}
use Rattle.std.specs.Prelude.{slice_get, All}
use Rattle.std.specs.List.{cons_option}
use Rattle.std.specs.Option.{option_and_then, option_map}
use Rattle.std.proofs.lemmas.List.Elements.{All-head, All-tail}
use Rattle.carol_store.specs.declared.shape.CellKind.{CellKind}
use Rattle.carol_store.specs.declared.effect.Atom.{Atom}
use Rattle.carol_store.specs.declared.direction.Direction.{Direction}
use Rattle.carol_store.specs.Directions.{directions}
use Rattle.carol_store.specs.Kinds.{CellValue, changed, stepped, way}
use Rattle.carol_store.specs.Laws.{StepKeeps, StepsReach}
use Rattle.carol_store.specs.Stores.{IsStore, at_cell, with_cell}
use Rattle.carol_store.proofs.Cells.{IsStore-at_cell}
use Rattle.carol_store.proofs.KindLaws.{MayHold-changed, MayHold-stepped, changed_none, changed_some, steps}

-- two changes of one cell are one
at_cell-twice : (f g : CellKind → CellValue → CellValue) (shape : List CellKind) (cell : ℕ) (store : List CellValue) → at_cell f shape cell (at_cell g shape cell store) ≡ at_cell (λ kind value. f kind (g kind value)) shape cell store
at_cell-twice f g [] cell store = refl
at_cell-twice f g (kind ∷ kinds) zero [] = refl
at_cell-twice f g (kind ∷ kinds) (suc cell) [] = refl
at_cell-twice f g (kind ∷ kinds) zero (value ∷ values) = refl
at_cell-twice f g (kind ∷ kinds) (suc cell) (value ∷ values) = ap (λ (rest : List CellValue). value ∷ rest) (at_cell-twice f g kinds cell values)

-- so many steps keep what one keeps
steps_keep : (shape : List CellKind) (holds : List CellValue → Bool) (cell : ℕ) (up : Bool) (n : ℕ) (store : List CellValue) → StepKeeps shape holds (record { cell = cell; up = up }) → IsStore shape store → holds store ≡ true → holds (at_cell (λ kind value. steps kind up n value) shape cell store) ≡ true
steps_keep shape holds cell up zero store keeps is held = rw (at_cell-same shape cell store) held
  where
    at_cell-same : (shape : List CellKind) (cell : ℕ) (store : List CellValue) → at_cell (λ kind value. value) shape cell store ≡ store
    at_cell-same [] cell store = refl
    at_cell-same (kind ∷ kinds) zero [] = refl
    at_cell-same (kind ∷ kinds) (suc cell) [] = refl
    at_cell-same (kind ∷ kinds) zero (value ∷ values) = refl
    at_cell-same (kind ∷ kinds) (suc cell) (value ∷ values) = ap (λ (rest : List CellValue). value ∷ rest) (at_cell-same kinds cell values)
steps_keep shape holds cell up (suc n) store keeps is held =
    let next : List CellValue = at_cell (λ kind value. stepped kind up value) shape cell store
    in let after : holds (at_cell (λ kind value. steps kind up n value) shape cell next) ≡ true =
    steps_keep shape holds cell up n next keeps (IsStore-at_cell (λ kind value. stepped kind up value) (λ kind value. MayHold-stepped kind up value) shape cell store is) (keeps store is held)
    in ap holds (sym (at_cell-twice (λ kind value. steps kind up n value) (λ kind value. stepped kind up value) shape cell store)) ∙ after

-- an atom that moves nothing
with_none : (shape : List CellKind) (cell : ℕ) (amount : ℤ) (store : List CellValue) → option_and_then (λ kind. way kind amount) (slice_get shape cell) ≡ None → at_cell (λ kind value. changed kind value amount) shape cell store ≡ store
with_none [] cell amount store h = refl
with_none (kind ∷ kinds) zero amount [] h = refl
with_none (kind ∷ kinds) (suc cell) amount [] h = refl
with_none (kind ∷ kinds) zero amount (value ∷ values) h = ap (λ (v : CellValue). v ∷ values) (changed_none kind amount value h)
with_none (kind ∷ kinds) (suc cell) amount (value ∷ values) h = ap (λ (rest : List CellValue). value ∷ rest) (with_none kinds cell amount values h)

-- an atom that moves its cell takes some steps that way
with_some : (shape : List CellKind) (cell : ℕ) (amount : ℤ) (up : Bool) (store : List CellValue) → option_and_then (λ kind. way kind amount) (slice_get shape cell) ≡ Some up → (n : ℕ) × (at_cell (λ kind value. changed kind value amount) shape cell store ≡ at_cell (λ kind value. steps kind up n value) shape cell store)
with_some [] cell amount up store h = (zero, refl)
with_some (kind ∷ kinds) zero amount up [] h = (zero, refl)
with_some (kind ∷ kinds) (suc cell) amount up [] h = (zero, refl)
with_some (kind ∷ kinds) zero amount up (value ∷ values) h =
    let one = changed_some kind amount up value h
    in (one.0, ap (λ (v : CellValue). v ∷ values) one.1)
with_some (kind ∷ kinds) (suc cell) amount up (value ∷ values) h =
    let rest = with_some kinds cell amount up values h
    in (rest.0, ap (λ (rest : List CellValue). value ∷ rest) rest.1)

-- one atom, and the directions of those behind it
atom_keeps : (shape : List CellKind) (atom : Atom) (left : List Direction) (holds : List CellValue → Bool) (store : List CellValue) (way_of : Option Bool) → option_and_then (λ kind. way kind atom.value) (slice_get shape atom.cell) ≡ way_of → All (StepKeeps shape holds) (cons_option (option_map (λ up. record { cell = atom.cell; up = up }) way_of) left) → IsStore shape store → holds store ≡ true → (holds (with_cell shape atom store) ≡ true) × All (StepKeeps shape holds) left
atom_keeps shape atom left holds store None at keep is held = (rw (with_none shape atom.cell atom.value store at) held, keep)
atom_keeps shape atom left holds store (Some up) at keep is held =
    let direction : Direction = record { cell = atom.cell; up = up }
    in let taken = with_some shape atom.cell atom.value up store at
    in (
      ap holds taken.1 ∙ steps_keep shape holds atom.cell up taken.0 store (All-head (StepKeeps shape holds) direction left keep) is held,
      All-tail (StepKeeps shape holds) direction left keep,
    )

pub steps_reach : StepsReach
steps_reach shape [] holds keep store is held = held
steps_reach shape (atom ∷ atoms) holds keep store is held =
    let one = atom_keeps shape atom (directions shape atoms) holds store (option_and_then (λ kind. way kind atom.value) (slice_get shape atom.cell)) refl keep is held
    in steps_reach shape atoms holds one.1 (with_cell shape atom store)
    (IsStore-at_cell (λ kind value. changed kind value atom.value) (λ kind value. MayHold-changed kind value atom.value) shape atom.cell store is) one.0
