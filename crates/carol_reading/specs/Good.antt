-- Which operations are good, and which programs are accepted.
use Rattle.std.specs.Prelude.{◌≡◌, true, List, [], ◌∷◌, ◌++◌, length, ℤ}
use Rattle.std.specs.List.{AllByRecursion}
use Rattle.carol_store.specs.declared.effect.Atom.{Atom}
use Rattle.carol_store.specs.Kinds.{CellValue}
use Rattle.carol_store.specs.Effects.{AreAtomsOf}
use Rattle.carol_store.specs.Stores.{IsStore, apply}
use Rattle.carol_formula.specs.Claim.{Claim, truth}
use Rattle.carol_formula.specs.Value.{set_at}
use Rattle.carol_program.specs.Preserving.{Guards}
use Rattle.carol_program.specs.Rules.{Rules, OpRules}
use Rattle.carol_program.specs.Scenes.{MeetsAll}
use Rattle.carol_program.specs.Variables.{number_of_args, result_variable}
use Rattle.carol_reading.specs.Marks.{Mark, Issued, Returned}
use Rattle.carol_reading.specs.Readings.{Reads}
use Rattle.carol_reading.specs.Rounds.{MeetsInvariant, IsProper}

-- as many arguments as parameters, and each refinement true of them
pub record Meet (op : OpRules) (args : List ℤ) : Type 0 where
  pub count : length args ≡ length op.params
  pub all : MeetsAll op.params args

-- the operation leaves the marks in a reading of its own, with arguments that meet its refinements
-- and rounds as they may be
pub record IsReading (p : Rules) (op : OpRules) (args : List ℤ) (marks : List Mark) (ended : List (List CellValue)) (current : List CellValue) : Type 0 where
  pub meet : Meet op args
  pub reads : Reads p.shape op.body (number_of_args args) marks
  pub proper : IsProper p marks ended current

-- behind the marks the operation may leave this one
abbrev pub MayLeave : Rules → OpRules → List ℤ → List Mark → Mark → Type 0
MayLeave p op args marks mark = Reads p.shape op.body (number_of_args args) (marks ++ mark ∷ [])

-- whatever its queries get: each effect that it issues is one of the shape, with no amount too
-- large, and keeps the invariant of the round's store; and what it returns meets its refinement
pub record IsGood (p : Rules) (op : OpRules) : Type 0 where
  pub fits :
      (args : List ℤ) (marks : List Mark) (effect : List Atom)
      (ended : List (List CellValue)) (current : List CellValue) →
      IsReading p op args marks ended current → MayLeave p op args marks (Issued effect) →
      AreAtomsOf p.shape effect
  pub keeps :
      (args : List ℤ) (marks : List Mark) (effect : List Atom)
      (ended : List (List CellValue)) (current : List CellValue) →
      IsReading p op args marks ended current → MayLeave p op args marks (Issued effect) →
      MeetsInvariant p (apply p.shape effect current)
  pub answers :
      (args : List ℤ) (marks : List Mark) (value : ℤ)
      (ended : List (List CellValue)) (current : List CellValue) →
      IsReading p op args marks ended current → MayLeave p op args marks (Returned value) →
      truth op.result (set_at result_variable value (number_of_args args)) ≡ true

-- the guard is true of any two equal stores
pub record IsReflexive (p : Rules) (guard : Claim) : Type 0 where
  pub each : (store : List CellValue) → IsStore p.shape store → Guards guard store store

pub record IsAccepted (p : Rules) : Type 0 where
  pub initial : MeetsInvariant p p.initial
  pub reflexive : AllByRecursion (IsReflexive p) p.guards
  pub good : AllByRecursion (IsGood p) p.ops
