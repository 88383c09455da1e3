-- What `infer` answers.
use Rattle.std.specs.Prelude.{◌≡◌, ◌↔◌, ◌⊎◌, ℕ, ◌+◌, Bool, true, List, [], ◌∷◌, ◌++◌, length, map, ℤ, Some, slice_get}
use Rattle.std.specs.List.{AllByRecursion}
use Rattle.carol_store.specs.declared.shape.CellKind.{CellKind}
use Rattle.carol_store.specs.declared.direction.Direction.{Direction}
use Rattle.carol_store.specs.Kinds.{ways}
use Rattle.carol_formula.specs.Claim.{Claim, truth, without_not}
use Rattle.carol_formula.specs.Numbers.{number_at}
use Rattle.carol_decide.specs.declared.answer.Why.{Why}
use Rattle.carol_decide.specs.Answer.{IsStuck}
use Rattle.carol_program.specs.declared.accords.Entry.TheVariants.{No}
use Rattle.carol_program.specs.declared.places.Place.{Place}
use Rattle.carol_program.specs.declared.places.Place.TheVariants.{Reflexive, Accord}
use Rattle.carol_program.specs.Accords.{Accords, HasWay, entry_of}
use Rattle.carol_program.specs.Preserving.{Preserves}
use Rattle.carol_program.specs.Rules.{Rules}
use Rattle.carol_reading.specs.Good.{IsReflexive}
use Rattle.carol_accord.specs.declared.error.AccordError.{AccordError}
use Rattle.carol_accord.specs.declared.error.AccordError.TheVariants.{NotReflexive, Undecided, NoMemory}
use Rattle.carol_accord.specs.Broken.{BreaksEqual, BreaksStep}
use Rattle.carol_accord.specs.Formed.{equal_claim, step_claim}

-- ---- the order

abbrev pub step_of : ℕ → Bool → Direction
step_of cell up = record { cell = cell; up = up }

-- the steps of one cell before others
abbrev pub steps_before : ℕ → CellKind → List Direction → List Direction
steps_before cell kind more = map (step_of cell) (ways kind) ++ more

abbrev pub steps_from : ℕ → List CellKind → List Direction
steps_from cell [] = []
steps_from cell (kind ∷ kinds) = steps_before cell kind (steps_from (cell + 1) kinds)

-- all steps, by cell
abbrev pub steps_of : List CellKind → List Direction
steps_of kinds = steps_from 0 kinds

-- ---- what is decided

-- the step keeps the guard, or two stores are known at which it doesn't
abbrev pub IsSettled : List CellKind → Claim → Direction → Type 0
IsSettled kinds guard direction = Preserves kinds guard direction ⊎ ((f : ℕ → ℤ) × BreaksStep kinds guard direction f)

-- the guard is reflexive, and each of its steps is settled
pub record IsDecided (p : Rules) (guard : Claim) : Type 0 where
  pub reflexive : IsReflexive p guard
  pub steps : AllByRecursion (IsSettled p.shape guard) (steps_of p.shape)

-- the guard with this number is the claim, and those before it are decided
pub record ComesTo (p : Rules) (number : ℕ) (guard : Claim) : Type 0 where
  pub earlier : List Claim
  pub later : List Claim
  pub order : p.guards ≡ earlier ++ guard ∷ later
  pub number_is : length earlier ≡ number
  pub decided : AllByRecursion (IsDecided p) earlier

-- the guard is reflexive, and its steps before this one are settled
pub record ComesToStep (p : Rules) (guard : Claim) (direction : Direction) : Type 0 where
  pub reflexive : IsReflexive p guard
  pub earlier : List Direction
  pub later : List Direction
  pub order : steps_of p.shape ≡ earlier ++ direction ∷ later
  pub settled : AllByRecursion (IsSettled p.shape guard) earlier

-- ---- errors

-- the formula is true of exactly the numbers that break something, and its decision ends for this reason
pub record IsReason (formula : Claim) (breaks : (ℕ → ℤ) → Type 0) (why : Why) : Type 0 where
  pub exact : (f : ℕ → ℤ) → (truth formula f ≡ true) ↔ breaks f
  pub stuck : IsStuck (without_not true formula) why

-- the decision whether the guard is true of equal stores ends for this reason
abbrev pub IsEqualReason : List CellKind → Claim → Why → Type 0
IsEqualReason kinds guard why = IsReason (equal_claim kinds guard) (BreaksEqual kinds guard) why

-- the decision whether the step keeps the guard does
pub record IsStepReason (kinds : List CellKind) (guard : Claim) (direction : Direction) (why : Why) : Type 0 where
  pub kind : CellKind
  pub of_kind : slice_get kinds direction.cell ≡ Some kind
  pub reason : IsReason (step_claim kinds guard kind direction) (BreaksStep kinds guard direction) why

-- the numbers break the guard at equal stores, and all before it is decided
pub record IsNotReflexive (p : Rules) (number : ℕ) (f : ℕ → ℤ) : Type 0 where
  pub guard : Claim
  pub first : ComesTo p number guard
  pub breaks : BreaksEqual p.shape guard f

-- it stays open whether the guard is reflexive, and all before it is decided
pub record IsOpenGuard (p : Rules) (number : ℕ) (why : Why) : Type 0 where
  pub guard : Claim
  pub first : ComesTo p number guard
  pub reason : IsEqualReason p.shape guard why

-- it stays open whether the step keeps the guard, and all before it is decided
pub record IsOpenStep (p : Rules) (number : ℕ) (direction : Direction) (why : Why) : Type 0 where
  pub guard : Claim
  pub first : ComesTo p number guard
  pub first_step : ComesToStep p guard direction
  pub reason : IsStepReason p.shape guard direction why

abbrev pub IsOpenAt : Rules → Place → Why → Type 0
IsOpenAt p (Reflexive number) why = IsOpenGuard p number why
IsOpenAt p (Accord number cell up) why = IsOpenStep p number (step_of cell up) why
IsOpenAt p place why = ⊥

abbrev pub FailsReflexive : Rules → AccordError → Type 0
FailsReflexive p (NotReflexive number at) = IsNotReflexive p number (number_at at)
FailsReflexive p (Undecided place why) = Unit {0}
FailsReflexive p NoMemory = Unit {0}

abbrev pub StaysUndecided : Rules → AccordError → Type 0
StaysUndecided p (NotReflexive number at) = Unit {0}
StaysUndecided p (Undecided place why) = IsOpenAt p place why
StaysUndecided p NoMemory = Unit {0}

-- ---- the table

-- where a step doesn't keep its guard, the entry has two stores at which it breaks it
pub record HasWitnesses (kinds : List CellKind) (guards : List Claim) (table : Accords) : Type 0 where
  pub each :
      (number : ℕ) (guard : Claim) (direction : Direction) (at : List (ℕ × ℤ)) →
      slice_get guards number ≡ Some guard → HasWay kinds direction.cell direction.up →
      entry_of table number direction.cell direction.up ≡ Some (No at) →
      BreaksStep kinds guard direction (number_at at)
