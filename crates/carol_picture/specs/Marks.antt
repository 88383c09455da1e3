-- The marks of the events, one after another.
use Rattle.std.specs.Prelude.{ℕ, ◌+◌, List, [], ◌∷◌, ◌++◌, codes}
use Rattle.carol_program.specs.declared.names.Names.{Names}
use Rattle.carol_program.specs.Rules.{Rules}
use Rattle.carol_program.specs.declared.scenes.Scene.{Scene}
use Rattle.carol_store.specs.Kinds.{CellValue}
use Rattle.carol_event.specs.declared.event.Event.{Event}
use Rattle.carol_event.specs.declared.event.Event.TheVariants.{Issue}
use Rattle.carol_picture.specs.Changes.{changed}
use Rattle.carol_picture.specs.Columns.{blank_row, store_row}
use Rattle.carol_picture.specs.Elements.{text_element}
use Rattle.carol_picture.specs.Labels.{label}
use Rattle.carol_picture.specs.Places.{lane_x, row_y}
use Rattle.carol_picture.specs.Shapes.{shape}
use Rattle.carol_picture.specs.Texts.{numbered}

-- the values of the global store where the event changes it, and nothing in their columns where it
-- doesn't
abbrev pub row_cells : Names → Event → List CellValue → List ℕ
row_cells names (Issue session entry effect) store = store_row names.cells store
row_cells names event store = blank_row names.cells

-- what stands in the row of an event, with the global store after it
unfoldable pub row_text : Rules → Names → Event → List CellValue → List ℕ
row_text p names event store =
    row_cells names event store ++ (codes "  " ++ label p names event)

-- the mark of an event: its number, what is drawn in the lanes, and what stands behind them
unfoldable pub mark : Rules → Names → Scene → ℕ → Event → List Event → List CellValue → List ℕ
mark p names scene row event later store =
    text_element (codes "number") 46 (row_y row + 4) (numbered [] (row + 1))
    ++ (shape scene.sessions row event later
    ++ text_element (codes "row") (lane_x scene.sessions scene.replicas) (row_y row + 4)
    (row_text p names event store))

-- a mark for each event, in order; the first has this row, and the global store is this before it
abbrev pub marks : Rules → Names → Scene → ℕ → List CellValue → List Event → List ℕ
marks p names scene row store [] = []
marks p names scene row store (event ∷ later) =
    mark p names scene row event later (changed p.shape event store)
    ++ marks p names scene (row + 1) (changed p.shape event store) later
