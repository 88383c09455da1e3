-- The stores that replicas keep.
use Rattle.std.specs.Prelude.{◌≡◌, ℕ, ◌==◌, if◌then◌else◌, List, [], length, get_or}
use Rattle.carol_store.specs.declared.shape.CellKind.{CellKind}
use Rattle.carol_store.specs.declared.effect.Atom.{Atom}
use Rattle.carol_store.specs.Kinds.{CellValue}
use Rattle.carol_store.specs.Stores.{apply}

-- the store of each replica, and the one of all entries
pub record Replicas : Type 0 where
  pub locals : List (List CellValue)
  pub global : List CellValue

-- the store of this replica
abbrev pub local_at : Replicas → ℕ → List CellValue
local_at replicas replica = get_or replicas.locals replica []

-- the effect was applied to the store of this replica, and to no other
pub record Changes (shape : List CellKind) (old : Replicas) (replica : ℕ) (effect : List Atom)
    (new : Replicas) : Type 0 where
  pub each : (r : ℕ) → local_at new r
      ≡ (if replica == r then apply shape effect (local_at old r) else local_at old r)
  pub count : length new.locals ≡ length old.locals
