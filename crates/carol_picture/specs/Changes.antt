-- What the events make of the global store, one after another.
use Rattle.std.specs.Prelude.{List, [], ◌∷◌}
use Rattle.carol_store.specs.declared.shape.CellKind.{CellKind}
use Rattle.carol_store.specs.Effects.{IsEffect}
use Rattle.carol_store.specs.Kinds.{CellValue}
use Rattle.carol_store.specs.Stores.{StaysInWords, apply}
use Rattle.carol_event.specs.declared.event.Event.{Event}
use Rattle.carol_event.specs.declared.event.Event.TheVariants.{Issue}

-- an issue applies its effect
abbrev pub changed : List CellKind → Event → List CellValue → List CellValue
changed shape (Issue session entry effect) store = apply shape effect store
changed shape event store = store

-- the effect that is issued fits the shape, and no cell leaves its word
abbrev pub Fit : List CellKind → List CellValue → Event → Type 0
Fit shape store (Issue session entry effect) =
    IsEffect shape effect × StaysInWords shape effect store
Fit shape store event = Unit {0}

-- so it is with each of these events in turn
abbrev pub FitsAll : List CellKind → List CellValue → List Event → Type 0
FitsAll shape store [] = Unit {0}
FitsAll shape store (event ∷ later) =
    Fit shape store event × FitsAll shape (changed shape event store) later
