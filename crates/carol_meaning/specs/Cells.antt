-- Declarations of cells: what a path names among them, the cells that they declare, and what is wrong with them.
use Rattle.std.specs.Prelude.{ℕ, ◌+◌, if◌then◌else◌, List, [], ◌∷◌, ◌++◌, length, map, codes, ℤ, pos, Option, Some, None, slice_get}
use Rattle.std.specs.List.{flat_map}
use Rattle.std.specs.Str.{bytes_eq}
use Rattle.carol_store.specs.declared.shape.CellKind.{CellKind}
use Rattle.carol_store.specs.declared.shape.CellKind.TheVariants as cell_kind
use Rattle.carol_syntax.specs.declared.places.Ident.{Ident}
use Rattle.carol_syntax.specs.declared.cells.FieldKind.{FieldKind}
use Rattle.carol_syntax.specs.declared.cells.FieldKind.TheVariants as field_kind
use Rattle.carol_syntax.specs.declared.cells.FieldDecl.{FieldDecl}
use Rattle.carol_syntax.specs.declared.cells.CellDecl.{CellDecl}
use Rattle.carol_syntax.specs.declared.cells.CellDecl.TheVariants.{Field, Set, Record}
use Rattle.carol_syntax.specs.Size.{cell_count}
use Rattle.carol_program.specs.Limits.{most_cells}
use Rattle.carol_meaning.specs.declared.fault.Fault.{Fault}
use Rattle.carol_meaning.specs.declared.named.Named.{Named}
use Rattle.carol_meaning.specs.declared.named.Named.TheVariants.{Cell, Members, Missing, Misused}
use Rattle.carol_meaning.specs.Declarations.{twice_in, too_many, place_of}

abbrev pub kind_of : FieldKind → CellKind
kind_of field_kind.Counter = cell_kind.Counter
kind_of field_kind.Peak = cell_kind.Peak
kind_of field_kind.Flag = cell_kind.Flag

-- the name in the space of cells, sets and records
abbrev pub name_of : CellDecl → Ident
name_of (Field f) = f.name
name_of (Set name members) = name
name_of (Record name fields) = name

-- the names by which its cells are declared: its own, its members' or its fields'
abbrev pub cell_names : CellDecl → List Ident
cell_names (Field f) = f.name ∷ []
cell_names (Set name members) = members
cell_names (Record name fields) = map (λ f. f.name) fields

-- ---- what a path names

-- the member or field at a place, behind so many cells, and with this rest of the path
abbrev pub member : ℕ → Option ℕ → List (List ℕ) → Named
member before None rest = Missing
member before (Some i) [] = Cell (before + i) cell_kind.Flag
member before (Some i) (word ∷ rest) = Misused

abbrev pub field_kind_at : Option FieldDecl → CellKind
field_kind_at None = cell_kind.Flag
field_kind_at (Some f) = kind_of f.kind

abbrev pub field : ℕ → List FieldDecl → Option ℕ → List (List ℕ) → Named
field before fields None rest = Missing
field before fields (Some i) [] = Cell (before + i) (field_kind_at (slice_get fields i))
field before fields (Some i) (word ∷ rest) = Misused

-- the rest of a path inside a declaration, behind so many cells
abbrev pub inside : ℕ → CellDecl → List (List ℕ) → Named
inside before (Field f) [] = Cell before (kind_of f.kind)
inside before (Field f) (word ∷ rest) = Misused
inside before (Set name members) [] = Members before (length members)
inside before (Set name members) (word ∷ rest) = member before (place_of word members) rest
inside before (Record name fields) [] = Misused
inside before (Record name fields) (word ∷ rest) = field before fields (place_of word (map (λ f. f.name) fields)) rest

-- what a path names that begins with this word, behind so many cells: the first declaration of the word counts
abbrev pub named_after : ℕ → List CellDecl → List ℕ → List (List ℕ) → Named
named_after before [] word rest = Missing
named_after before (d ∷ ds) word rest =
    if bytes_eq word (name_of d).word then inside before d rest else named_after (before + cell_count d) ds word rest

-- what a path names
abbrev pub named : List CellDecl → List (List ℕ) → Named
named ds [] = Missing
named ds (word ∷ rest) = named_after 0 ds word rest

-- ---- the cells

-- the name of a member or a field
abbrev pub dotted : Ident → Ident → List ℕ
dotted group i = group.word ++ codes "." ++ i.word

-- what the function gives for each cell of a declaration, of its kind, the value that it starts with and its whole name
abbrev pub cells_in : {A : Type 0} → (CellKind → ℤ → List ℕ → A) → CellDecl → List A
cells_in cell (Field f) = cell (kind_of f.kind) f.start f.name.word ∷ []
cells_in cell (Set name members) = map (λ m. cell cell_kind.Flag (pos 0) (dotted name m)) members
cells_in cell (Record name fields) = map (λ f. cell (kind_of f.kind) f.start (dotted name f.name)) fields

abbrev pub kinds_in : CellDecl → List CellKind
kinds_in d = cells_in (λ kind start title. kind) d

abbrev pub starts_in : CellDecl → List ℤ
starts_in d = cells_in (λ kind start title. start) d

abbrev pub titles_in : CellDecl → List (List ℕ)
titles_in d = cells_in (λ kind start title. title) d

-- ---- what is wrong

-- of a set its members differ, and of a record its fields
abbrev pub member_faults : CellDecl → List Fault
member_faults d = twice_in (cell_names d)

abbrev pub cell_faults : List CellDecl → List Fault
cell_faults ds = twice_in (map name_of ds) ++ flat_map member_faults ds ++ too_many most_cells (flat_map cell_names ds)
