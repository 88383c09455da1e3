-- The text of an accepted program: for each guard whether the steps of each cell keep it.
use Rattle.std.specs.Prelude.{ℕ, zero, suc, ◌+◌, Bool, List, [], ◌∷◌, ◌++◌, codes, length, Option, Some, None}
use Rattle.std.specs.Fmt.{decimal}
use Rattle.carol_store.specs.declared.shape.CellKind.{CellKind}
use Rattle.carol_store.specs.Kinds.{ways}
use Rattle.carol_program.specs.declared.accords.Entry.{Entry}
use Rattle.carol_program.specs.declared.accords.Entry.TheVariants.{Yes, No}
use Rattle.carol_program.specs.declared.names.Names.{Names}
use Rattle.carol_program.specs.Accords.{Accords, entry_of}
use Rattle.carol_reading.specs.Kept.{Kept}
use Rattle.carol_accept.specs.Named.{name_at, way_word}

abbrev pub line_feed : List ℕ
line_feed = 10 ∷ []

abbrev pub answer_word : Option Entry → List ℕ
answer_word (Some Yes) = codes "yes"
answer_word (Some (No at)) = codes "no"
answer_word None = []

-- whether this way of the cell keeps the guard
abbrev pub way_text : Names → Accords → ℕ → ℕ → Bool → List ℕ
way_text names table guard cell up =
    name_at names.cells cell ++ (way_word up ++ (codes " " ++ (answer_word (entry_of table guard cell up) ++ line_feed)))

-- these ways of the cell
abbrev pub ways_text : Names → Accords → ℕ → ℕ → List Bool → List ℕ
ways_text names table guard cell [] = []
ways_text names table guard cell (up ∷ more) = way_text names table guard cell up ++ ways_text names table guard cell more

-- the ways of a cell of this kind
abbrev pub cell_text : Names → Accords → ℕ → ℕ → CellKind → List ℕ
cell_text names table guard cell kind = ways_text names table guard cell (ways kind)

-- the cells from this one on, which have these kinds
abbrev pub cells_text : Names → Accords → ℕ → ℕ → List CellKind → List ℕ
cells_text names table guard cell [] = []
cells_text names table guard cell (kind ∷ kinds) = cell_text names table guard cell kind ++ cells_text names table guard (cell + 1) kinds

-- a guard: its number and name, and the cells
abbrev pub guard_text : Names → Accords → List CellKind → ℕ → List ℕ
guard_text names table kinds guard =
    (codes "guard " ++ (decimal guard ++ (codes " " ++ (name_at names.guards guard ++ line_feed)))) ++ cells_text names table guard 0 kinds

-- so many guards from this one on
abbrev pub guards_text : Names → Accords → List CellKind → ℕ → ℕ → List ℕ
guards_text names table kinds zero guard = []
guards_text names table kinds (suc more) guard = guard_text names table kinds guard ++ guards_text names table kinds more (guard + 1)

unfoldable pub accord_text : Kept → List ℕ
accord_text kept =
    (codes "accepted" ++ line_feed) ++
    (guards_text kept.program.names kept.accords kept.program.shape (length kept.program.guards) 0 ++ (codes "end" ++ line_feed))
