-- The directions in which an effect moves cells, and one step in a direction.
use Rattle.std.specs.Prelude.{List, Option, slice_get}
use Rattle.std.specs.List.{filter_map}
use Rattle.std.specs.Option.{option_map, option_and_then}
use Rattle.carol_store.specs.declared.shape.CellKind.{CellKind}
use Rattle.carol_store.specs.declared.effect.Atom.{Atom}
use Rattle.carol_store.specs.declared.direction.Direction.{Direction}
use Rattle.carol_store.specs.Kinds.{CellValue, stepped, way}
use Rattle.carol_store.specs.Stores.{at_cell}

-- the direction in which the atom moves its cell, if it moves it
abbrev pub direction_of : List CellKind → Atom → Option Direction
direction_of shape atom =
    option_map (λ up. record { cell = atom.cell; up = up })
    (option_and_then (λ kind. way kind atom.value) (slice_get shape atom.cell))

-- the directions of an effect, in the order of its cells
abbrev pub directions : List CellKind → List Atom → List Direction
directions shape atoms = filter_map (direction_of shape) atoms

-- the store after one step in the direction: one added, one taken away, or 1 in a flag
abbrev pub unit_step : List CellKind → Direction → List CellValue → List CellValue
unit_step shape direction store =
    at_cell (λ kind value. stepped kind direction.up value) shape direction.cell store
