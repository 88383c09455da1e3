-- Guards that are true of a replica's store and itself stay true up to the global store.
use Rattle.std.proofs.Common.{◌≡◌, ℕ, ◌+◌, ◌<◌, zero, suc, Bool, true, false, cond, List, [], ◌∷◌, length, refl, sym, subst, inl, inr, add-zero, arith}
use Rattle.std.specs.Prelude.{◌⊎◌, Option, Some, None, slice_get}
use Rattle.std.specs.List.{AllByRecursion}
use Rattle.std.proofs.lemmas.List.Elements.{All-from_recursion}
use Rattle.carol_store.specs.declared.shape.CellKind.{CellKind}
use Rattle.carol_store.specs.declared.direction.Direction.{Direction}
use Rattle.carol_store.specs.declared.effect.Atom.{Atom}
use Rattle.carol_store.specs.Actions.{chosen_from}
use Rattle.carol_store.specs.Directions.{directions}
use Rattle.carol_store.specs.Kinds.{CellValue, changed}
use Rattle.carol_store.specs.Laws.{EffectsCommute, StepKeeps, StepsReach}
use Rattle.carol_store.specs.Stores.{IsStore, apply, apply_all, with_cell}
use Rattle.carol_store.proofs.Actions.{act_all-first}
use Rattle.carol_store.proofs.Cells.{IsStore-at_cell}
use Rattle.carol_store.proofs.KindLaws.{MayHold-changed}
use Rattle.carol_formula.specs.Claim.{Claim, truth}
use Rattle.carol_program.specs.Preserving.{Guards, Preserves, Within}
use Rattle.carol_program.specs.Rules.{Rules}
use Rattle.carol_program.specs.Variables.{number_in_two}
use Rattle.carol_reading.specs.Good.{IsReflexive}
use Rattle.carol_reading.specs.Rounds.{GuardsIn}
use Rattle.carol_history.specs.Legal.{Admits, AdmitsIn}

-- ---- effects keep stores

pub store_after : (shape : List CellKind) (effect : List Atom) (store : List CellValue) → IsStore shape store → IsStore shape (apply shape effect store)
store_after shape [] store is = is
store_after shape (atom ∷ atoms) store is =
    store_after shape atoms (with_cell shape atom store)
    (IsStore-at_cell (λ kind value. changed kind value atom.value) (λ kind value. MayHold-changed kind value atom.value) shape atom.cell store is)

pub store_after_all : (shape : List CellKind) (effects : List (List Atom)) (store : List CellValue) → IsStore shape store → IsStore shape (apply_all shape effects store)
store_after_all shape [] store is = is
store_after_all shape (effect ∷ effects) store is = store_after_all shape effects (apply shape effect store) (store_after shape effect store is)

-- ---- effects within a guard keep it

within_keeps : StepsReach → (p : Rules) (guard : Claim) (effect : List Atom) (here there : List CellValue) → IsStore p.shape here → IsStore p.shape there → Within p guard effect → Guards guard here there → Guards guard here (apply p.shape effect there)
within_keeps reach p guard effect here there is_here is_there within holds =
    reach p.shape effect (λ store. truth guard (number_in_two here store))
    (All-from_recursion (StepKeeps p.shape (λ store. truth guard (number_in_two here store))) (directions p.shape effect) (each (directions p.shape effect) within.each))
    there is_there holds
  where
    each : (ds : List Direction) → AllByRecursion (Preserves p.shape guard) ds → AllByRecursion (StepKeeps p.shape (λ store. truth guard (number_in_two here store))) ds
    each [] h = tt
    each (d ∷ ds) h = ((λ store is holds. h.0.keeps here store is_here is holds), each ds h.1)

admitted_in : StepsReach → (p : Rules) (o : Option Claim) (effect : List Atom) (here there : List CellValue) → IsStore p.shape here → IsStore p.shape there → AdmitsIn p o effect → GuardsIn o here there → GuardsIn o here (apply p.shape effect there)
admitted_in reach p None effect here there is_here is_there within holds = absurd holds
admitted_in reach p (Some guard) effect here there is_here is_there within holds = within_keeps reach p guard effect here there is_here is_there within holds

pub admitted_keeps : StepsReach → (p : Rules) (guard : ℕ) (effect : List Atom) (here there : List CellValue) → IsStore p.shape here → IsStore p.shape there → Admits p guard effect → GuardsIn (slice_get p.guards guard) here there → GuardsIn (slice_get p.guards guard) here (apply p.shape effect there)
admitted_keeps reach p guard effect here there is_here is_there within holds = admitted_in reach p (slice_get p.guards guard) effect here there is_here is_there within holds

-- ---- from the chosen entries to all of them

-- what each entry keeps that is not chosen, and the chosen entries come to, all come to
from_chosen : EffectsCommute → (shape : List CellKind) (Holds : List CellValue → Type 0) (chosen : ℕ → Bool) (k : ℕ) (effects : List (List Atom)) (store : List CellValue) → IsStore shape store →
    ((i : ℕ) (effect : List Atom) → slice_get effects i ≡ Some effect → (chosen (k + i) ≡ true) ⊎ ((there : List CellValue) → IsStore shape there → Holds there → Holds (apply shape effect there))) →
    Holds (apply_all shape (chosen_from chosen k effects) store) → Holds (apply_all shape effects store)
from_chosen commute shape Holds chosen k [] store is each holds = holds
from_chosen commute shape Holds chosen k (effect ∷ effects) store is each holds =
    let later : (i : ℕ) (e : List Atom) → slice_get effects i ≡ Some e → (chosen (k + 1 + i) ≡ true) ⊎ ((there : List CellValue) → IsStore shape there → Holds there → Holds (apply shape e there)) =
    λ i e at. let q : k + 1 + i ≡ k + suc i = omega arith in rw q (each (suc i) e at)
    in from_chosen commute shape Holds chosen (k + 1) effects (apply shape effect store) (store_after shape effect store is) later
    (here (chosen k) refl (rw add-zero at (each zero effect refl)) holds)
  where
    here : (b : Bool) → chosen k ≡ b → (chosen k ≡ true) ⊎ ((there : List CellValue) → IsStore shape there → Holds there → Holds (apply shape effect there)) → Holds (apply_all shape (cond b (effect ∷ chosen_from chosen (k + 1) effects) (chosen_from chosen (k + 1) effects)) store) → Holds (apply_all shape (chosen_from chosen (k + 1) effects) (apply shape effect store))
    here true e keeps h = h
    here false e (inl on) h = cc
    here false e (inr keeps) h =
        subst Holds (sym (act_all-first (apply shape) (commute shape) effect (chosen_from chosen (k + 1) effects) store))
        (keeps (apply_all shape (chosen_from chosen (k + 1) effects) store) (store_after_all shape (chosen_from chosen (k + 1) effects) store is) h)

-- a guard that there is, is true of a store and itself
reflexive_at : (p : Rules) (guards : List Claim) (guard : ℕ) (store : List CellValue) → AllByRecursion (IsReflexive p) guards → guard < length guards → IsStore p.shape store → GuardsIn (slice_get guards guard) store store
reflexive_at p [] guard store all named is = absurd (omega arith)
reflexive_at p (g ∷ guards) zero store all named is = all.0.each store is
reflexive_at p (g ∷ guards) (suc guard) store all named is = reflexive_at p guards guard store all.1 (omega arith) is

-- so it is of the chosen entries and all of them, where each is chosen or within the guard
pub chosen_to_all : EffectsCommute → StepsReach → (p : Rules) → AllByRecursion (IsReflexive p) p.guards → IsStore p.shape p.initial → (guard : ℕ) → guard < length p.guards → (chosen : ℕ → Bool) (effects : List (List Atom)) → ((i : ℕ) (effect : List Atom) → slice_get effects i ≡ Some effect → (chosen i ≡ true) ⊎ Admits p guard effect) → GuardsIn (slice_get p.guards guard) (apply_all p.shape (chosen_from chosen 0 effects) p.initial) (apply_all p.shape effects p.initial)
chosen_to_all commute reach p reflexive is guard named chosen effects each =
    let here : List CellValue = apply_all p.shape (chosen_from chosen 0 effects) p.initial
    in let is_here : IsStore p.shape here = store_after_all p.shape (chosen_from chosen 0 effects) p.initial is
    in from_chosen commute p.shape (λ there. GuardsIn (slice_get p.guards guard) here there) chosen 0 effects p.initial is
    (λ i effect at. kept here is_here effect (chosen (0 + i)) (chosen i) (ap_zero i) (each i effect at))
    (reflexive_at p p.guards guard here reflexive named is_here)
  where
    ap_zero : (i : ℕ) → chosen (0 + i) ≡ chosen i
    ap_zero i = let e : 0 + i ≡ i = omega arith in rw e refl

    kept : (here : List CellValue) → IsStore p.shape here → (effect : List Atom) (a b : Bool) → a ≡ b → (b ≡ true) ⊎ Admits p guard effect → (a ≡ true) ⊎ ((there : List CellValue) → IsStore p.shape there → GuardsIn (slice_get p.guards guard) here there → GuardsIn (slice_get p.guards guard) here (apply p.shape effect there))
    kept here is_here effect a b e (inl on) = inl cc
    kept here is_here effect a b e (inr within) = inr (λ there is_there holds. admitted_keeps reach p guard effect here there is_here is_there within holds)
