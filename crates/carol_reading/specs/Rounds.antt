-- Rounds: an issue, a release and a return each end one. The queries of a round speak of one global
-- store, which is the round's.
use Rattle.std.specs.Prelude.{◌≡◌, true, List, [], ◌∷◌, Option, Some, None, slice_get}
use Rattle.carol_store.specs.Kinds.{CellValue}
use Rattle.carol_store.specs.Stores.{IsStore}
use Rattle.carol_formula.specs.Claim.{Claim, truth}
use Rattle.carol_program.specs.Preserving.{Guards}
use Rattle.carol_program.specs.Rules.{Rules}
use Rattle.carol_program.specs.Variables.{number_in}
use Rattle.carol_reading.specs.Marks.{Mark, Asked, Issued, Released, Returned}

-- the invariant is true of the store
abbrev pub MeetsInvariant : Rules → List CellValue → Type 0
MeetsInvariant p store = truth p.invariant (number_in store) ≡ true

-- a store that a round may have
pub record IsSound (p : Rules) (store : List CellValue) : Type 0 where
  pub shaped : IsStore p.shape store
  pub invariant : MeetsInvariant p store

-- there is a guard, and it is true
abbrev pub GuardsIn : Option Claim → List CellValue → List CellValue → Type 0
GuardsIn None here there = ⊥
GuardsIn (Some guard) here there = Guards guard here there

-- the stores of the rounds that are over, and that of the round that is open: the invariant is true
-- of each, and each query's guard of what it got and its round's store
abbrev pub IsProper : Rules → List Mark → List (List CellValue) → List CellValue → Type 0
IsProper p [] [] current = IsSound p current
IsProper p (Asked guard store ∷ marks) [] current = GuardsIn (slice_get p.guards guard) store current × IsProper p marks [] current
IsProper p (Asked guard store ∷ marks) (y ∷ ended) current = GuardsIn (slice_get p.guards guard) store y × IsProper p marks (y ∷ ended) current
IsProper p (Issued effect ∷ marks) (y ∷ ended) current = IsSound p y × IsProper p marks ended current
IsProper p (Released ∷ marks) (y ∷ ended) current = IsSound p y × IsProper p marks ended current
IsProper p (Returned value ∷ marks) (y ∷ ended) current = IsSound p y × IsProper p marks ended current
IsProper p marks ended current = ⊥
