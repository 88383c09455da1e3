-- The table of accords as plain data: the entries by guard, then by cell, up before down.
use Rattle.std.specs.Prelude.{◌≡◌, ℕ, zero, suc, ◌+◌, ◌*◌, Bool, true, if◌then◌else◌, List, [], ◌∷◌, length, Option, slice_get}
use Rattle.carol_store.specs.declared.shape.CellKind.{CellKind}
use Rattle.carol_store.specs.declared.direction.Direction.{Direction}
use Rattle.carol_store.specs.Kinds.{ways, can_go}
use Rattle.carol_program.specs.declared.accords.Entry.{Entry}

pub record Accords : Type 0 where
  pub kinds : List CellKind
  pub guards : ℕ
  pub entries : List Entry

-- how many entries a guard has: one for each way of each cell
abbrev pub row_length : List CellKind → ℕ
row_length [] = 0
row_length (kind ∷ kinds) = length (ways kind) + row_length kinds

-- the cell is there, and can go this way
abbrev pub HasWay : List CellKind → ℕ → Bool → Type 0
HasWay [] cell up = ⊥
HasWay (kind ∷ kinds) zero up = can_go kind up ≡ true
HasWay (kind ∷ kinds) (suc cell) up = HasWay kinds cell up

-- each direction is a way of its cell
abbrev pub AreWays : List CellKind → List Direction → Type 0
AreWays kinds [] = Unit {0}
AreWays kinds (d ∷ ds) = HasWay kinds d.cell d.up × AreWays kinds ds

-- the place of a way in a guard's row
abbrev pub place_of : List CellKind → ℕ → Bool → ℕ
place_of [] cell up = 0
place_of (kind ∷ kinds) zero up = if up then 0 else 1
place_of (kind ∷ kinds) (suc cell) up = length (ways kind) + place_of kinds cell up

-- the length of a guard's row
abbrev pub row_of : Accords → ℕ
row_of table = row_length table.kinds

abbrev pub entry_of : Accords → ℕ → ℕ → Bool → Option Entry
entry_of table guard cell up = slice_get table.entries (guard * row_of table + place_of table.kinds cell up)

-- there is a row for each guard
abbrev pub IsTable : Accords → Type 0
IsTable table = length table.entries ≡ table.guards * row_of table
