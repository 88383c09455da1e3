-- What numbers for a guard's variables break: the guard at two equal stores, or one step that is to keep it.
use Rattle.std.specs.Prelude.{◌≡◌, ℕ, false, List, ℤ}
use Rattle.carol_store.specs.declared.shape.CellKind.{CellKind}
use Rattle.carol_store.specs.declared.direction.Direction.{Direction}
use Rattle.carol_store.specs.Kinds.{CellValue}
use Rattle.carol_store.specs.Stores.{IsStore}
use Rattle.carol_store.specs.Directions.{unit_step}
use Rattle.carol_formula.specs.Claim.{Claim, truth}
use Rattle.carol_program.specs.Preserving.{Guards}
use Rattle.carol_program.specs.Variables.{cell_variable, there_variable, number_in_two, store_at}

-- the store that is read, and the global one
abbrev pub here_of : List CellKind → (ℕ → ℤ) → List CellValue
here_of kinds f = store_at kinds (cell_variable 0) f

abbrev pub there_of : List CellKind → (ℕ → ℤ) → List CellValue
there_of kinds f = store_at kinds (there_variable 0) f

-- the guard is false where both stores are the one that is read
pub record BreaksEqual (kinds : List CellKind) (guard : Claim) (f : ℕ → ℤ) : Type 0 where
  pub store : IsStore kinds (here_of kinds f)
  pub fails : truth guard (number_in_two (here_of kinds f) (here_of kinds f)) ≡ false

-- the guard is true of the two stores, and false after the step in the global one
pub record BreaksAfter
    (kinds : List CellKind) (guard : Claim) (step : List CellValue → List CellValue) (f : ℕ → ℤ) : Type 0 where
  pub here : IsStore kinds (here_of kinds f)
  pub there : IsStore kinds (there_of kinds f)
  pub before : Guards guard (here_of kinds f) (there_of kinds f)
  pub after : truth guard (number_in_two (here_of kinds f) (step (there_of kinds f))) ≡ false

-- so it is with one step in the direction
abbrev pub BreaksStep : List CellKind → Claim → Direction → (ℕ → ℤ) → Type 0
BreaksStep kinds guard direction f = BreaksAfter kinds guard (unit_step kinds direction) f
