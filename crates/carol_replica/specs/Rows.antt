-- How a journal keeps its entries: all atoms in one list, and a row for each entry.
use Rattle.std.specs.Prelude.{ℕ, ◌+◌, ◌*◌, ◌≤◌, List, length, take, drop}
use Rattle.std.specs.List.{AllByRecursion}
use Rattle.carol_holding.specs.declared.row.TheConstants.{MOST_ENTRIES}
use Rattle.carol_store.specs.declared.effect.Atom.{Atom}
use Rattle.carol_store.specs.declared.short_list.TheConstants.{MOST_CELLS}
use Rattle.carol_replica.specs.declared.journal.Row.{Row}

-- the atoms of the row
abbrev pub atoms_of : List Atom → Row → List Atom
atoms_of atoms row = take row.len (drop row.start atoms)

-- the list of so many atoms has them all
abbrev pub IsInside : ℕ → Row → Type 0
IsInside count row = row.start + row.len ≤ count

-- each row is inside, and there is room for as many entries more
pub record IsKept
    (rows : List Row) (atoms : List Atom) (spare row_room atom_room : ℕ) : Type 0 where
  pub few : length rows ≤ MOST_ENTRIES
  pub narrow : length atoms ≤ MOST_CELLS * length rows
  pub inside : AllByRecursion (IsInside (length atoms)) rows
  pub rows_fit : length rows + spare ≤ row_room
  pub atoms_fit : length atoms + MOST_CELLS * spare ≤ atom_room
