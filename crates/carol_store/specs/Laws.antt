-- What holds of all effects and stores.
use Rattle.std.specs.Prelude.{◌≡◌, ℕ, ◌+◌, ◌^◌, ◌<◌, ◌≤◌, Bool, true, List, unsigned_abs, All}
use Rattle.std.specs.List.Sorted.{IsPermutation}
use Rattle.carol_store.specs.declared.shape.CellKind.{CellKind}
use Rattle.carol_store.specs.declared.effect.Atom.{Atom}
use Rattle.carol_store.specs.declared.effect.TheConstants.{MOST_AMOUNT, MOST_TARGET}
use Rattle.carol_store.specs.declared.direction.Direction.{Direction}
use Rattle.carol_store.specs.Actions.{Commutes}
use Rattle.carol_store.specs.Directions.{directions, unit_step}
use Rattle.carol_store.specs.Effects.{IsEffect}
use Rattle.carol_store.specs.Kinds.{CellValue}
use Rattle.carol_store.specs.Stores.{IsStore, StaysInWords, apply, apply_all}

-- two effects give the same store in either order
abbrev pub EffectsCommute : Type 0
EffectsCommute = (shape : List CellKind) → Commutes (apply shape)

-- effects give the same store in whichever order they are applied
abbrev pub OrderIsFree : Type 0
OrderIsFree =
    (shape : List CellKind) (effects others : List (List Atom)) (store : List CellValue) →
    IsPermutation effects others → apply_all shape others store ≡ apply_all shape effects store

-- each value is at most this in absolute value
abbrev pub AreWithin : ℕ → List CellValue → Type 0
AreWithin bound store = All (λ value. unsigned_abs value ≤ bound) store

-- the effect adds at most the most amount to the bound of a store, and no cell leaves its word
pub record AddsLittle
    (shape : List CellKind) (effect : List Atom) (bound : ℕ) (store : List CellValue) : Type 0 where
  pub within : AreWithin (bound + MOST_AMOUNT) (apply shape effect store)
  pub words : StaysInWords shape effect store

-- so does each effect that fits, at a store whose bound is no less than the most target, where the
-- raised bound fits a word
abbrev pub EffectsAddLittle : Type 0
EffectsAddLittle =
    (shape : List CellKind) (effect : List Atom) (bound : ℕ) (store : List CellValue) →
    IsEffect shape effect → MOST_TARGET ≤ bound → bound + MOST_AMOUNT < 2 ^ 63 →
    AreWithin bound store → AddsLittle shape effect bound store

-- what is true of a store stays true after the step
abbrev pub Keeps :
    List CellKind → (List CellValue → Bool) → (List CellValue → List CellValue) → Type 0
Keeps shape holds step =
    (store : List CellValue) → IsStore shape store → holds store ≡ true →
    holds (step store) ≡ true

-- so it is with one step in the direction
abbrev pub StepKeeps : List CellKind → (List CellValue → Bool) → Direction → Type 0
StepKeeps shape holds direction = Keeps shape holds (unit_step shape direction)

-- what each step in a direction of the effect keeps, the effect keeps
abbrev pub StepsReach : Type 0
StepsReach =
    (shape : List CellKind) (effect : List Atom) (holds : List CellValue → Bool) →
    All (StepKeeps shape holds) (directions shape effect) →
    (store : List CellValue) → IsStore shape store → holds store ≡ true →
    holds (apply shape effect store) ≡ true
