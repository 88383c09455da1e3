-- The order in which atoms and effects are applied makes no difference.
use Rattle.std.proofs.Common.{◌≡◌, ℕ, zero, suc, List, [], ◌∷◌, refl, ap}
use Rattle.carol_store.specs.declared.shape.CellKind.{CellKind}
use Rattle.carol_store.specs.Actions.{Commutes}
use Rattle.carol_store.specs.Kinds.{CellValue, changed}
use Rattle.carol_store.specs.Laws.{EffectsCommute, OrderIsFree}
use Rattle.carol_store.specs.Stores.{apply, at_cell, with_cell}
use Rattle.carol_store.proofs.Actions.{Commutes-act_all, act_all-permuted}
use Rattle.carol_store.proofs.KindLaws.{changed-changed}

-- two changes of a store
at_cell-at_cell : (f g : CellKind → CellValue → CellValue) → ((kind : CellKind) (value : CellValue) → f kind (g kind value) ≡ g kind (f kind value)) → (shape : List CellKind) (c d : ℕ) (store : List CellValue) → at_cell f shape c (at_cell g shape d store) ≡ at_cell g shape d (at_cell f shape c store)
at_cell-at_cell f g same [] c d store = refl
at_cell-at_cell f g same (kind ∷ kinds) zero zero [] = refl
at_cell-at_cell f g same (kind ∷ kinds) zero (suc d) [] = refl
at_cell-at_cell f g same (kind ∷ kinds) (suc c) zero [] = refl
at_cell-at_cell f g same (kind ∷ kinds) (suc c) (suc d) [] = refl
at_cell-at_cell f g same (kind ∷ kinds) zero zero (value ∷ values) = ap (λ (v : CellValue). v ∷ values) (same kind value)
at_cell-at_cell f g same (kind ∷ kinds) zero (suc d) (value ∷ values) = refl
at_cell-at_cell f g same (kind ∷ kinds) (suc c) zero (value ∷ values) = refl
at_cell-at_cell f g same (kind ∷ kinds) (suc c) (suc d) (value ∷ values) = ap (λ (rest : List CellValue). value ∷ rest) (at_cell-at_cell f g same kinds c d values)

-- two atoms
pub atoms_commute : (shape : List CellKind) → Commutes (with_cell shape)
atoms_commute shape a b store =
    at_cell-at_cell (λ kind value. changed kind value a.value) (λ kind value. changed kind value b.value)
    (λ kind value. changed-changed kind value b.value a.value) shape a.cell b.cell store

pub commutes : EffectsCommute
commutes shape = Commutes-act_all (with_cell shape) (atoms_commute shape)

pub order_is_free : OrderIsFree
order_is_free shape = act_all-permuted (apply shape) (commutes shape)
