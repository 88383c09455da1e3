-- Which steps keep a guard true, and when a table of accords is right.
use Rattle.std.specs.Prelude.{◌≡◌, ◌↔◌, ℕ, true, List, length, Some, slice_get}
use Rattle.std.specs.List.{AllByRecursion}
use Rattle.carol_store.specs.declared.shape.CellKind.{CellKind}
use Rattle.carol_store.specs.declared.effect.Atom.{Atom}
use Rattle.carol_store.specs.declared.direction.Direction.{Direction}
use Rattle.carol_store.specs.Kinds.{CellValue}
use Rattle.carol_store.specs.Stores.{IsStore}
use Rattle.carol_store.specs.Directions.{directions, unit_step}
use Rattle.carol_formula.specs.Claim.{Claim, truth}
use Rattle.carol_program.specs.declared.accords.Entry.TheVariants.{Yes}
use Rattle.carol_program.specs.Accords.{Accords, HasWay, entry_of}
use Rattle.carol_program.specs.Rules.{Rules}
use Rattle.carol_program.specs.Variables.{number_in_two}

-- the guard is true, read at the first store, of the second
abbrev pub Guards : Claim → List CellValue → List CellValue → Type 0
Guards guard here there = truth guard (number_in_two here there) ≡ true

-- where the guard is true of two stores, it is true after the step in the second
pub record KeepsGuard
    (kinds : List CellKind) (guard : Claim) (step : List CellValue → List CellValue) : Type 0 where
  pub keeps : (here there : List CellValue) → IsStore kinds here → IsStore kinds there → Guards guard here there → Guards guard here (step there)

-- one step in the direction keeps the guard
abbrev pub Preserves : List CellKind → Claim → Direction → Type 0
Preserves kinds guard direction = KeepsGuard kinds guard (unit_step kinds direction)

-- each direction of the effect keeps the guard
pub record Within (p : Rules) (guard : Claim) (effect : List Atom) : Type 0 where
  pub each : AllByRecursion (Preserves p.shape guard) (directions p.shape effect)

-- the table is one of the program's guards and cells, and each entry is Yes exactly where its direction keeps its guard
pub record IsRight (p : Rules) (table : Accords) : Type 0 where
  pub same_kinds : table.kinds ≡ p.shape
  pub same_guards : table.guards ≡ length p.guards
  pub each :
      (guard : ℕ) (claim : Claim) (direction : Direction) → slice_get p.guards guard ≡ Some claim → HasWay p.shape direction.cell direction.up →
      (entry_of table guard direction.cell direction.up ≡ Some Yes) ↔ Preserves p.shape claim direction
