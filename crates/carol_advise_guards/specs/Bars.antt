-- How much an assignment of guards bars: how many steps of cells its guards' accords leave out.
use Rattle.std.specs.Prelude.{ℕ, ◌+◌, Bool, List, [], ◌∷◌, Option, Some, None}
use Rattle.carol_store.specs.declared.shape.CellKind.{CellKind}
use Rattle.carol_store.specs.Kinds.{ways}
use Rattle.carol_program.specs.declared.accords.Entry.{Entry}
use Rattle.carol_program.specs.declared.accords.Entry.TheVariants.{Yes, No}
use Rattle.carol_program.specs.Accords.{Accords, entry_of}

-- one for an entry that is No
abbrev pub no_in : Option Entry → ℕ
no_in None = 0
no_in (Some Yes) = 0
no_in (Some (No stores)) = 1

-- the No entries of the guard for these ways of a cell
abbrev pub noes_of_ways : Accords → ℕ → ℕ → List Bool → ℕ
noes_of_ways table guard cell [] = 0
noes_of_ways table guard cell (up ∷ more) = no_in (entry_of table guard cell up) + noes_of_ways table guard cell more

-- those for the cells from this one on, which have these kinds
abbrev pub noes_from : Accords → ℕ → ℕ → List CellKind → ℕ
noes_from table guard cell [] = 0
noes_from table guard cell (kind ∷ kinds) = noes_of_ways table guard cell (ways kind) + noes_from table guard (cell + 1) kinds

-- how many No entries the guard has
abbrev pub noes : Accords → ℕ → ℕ
noes table guard = noes_from table guard 0 table.kinds

-- how many those of an assignment's guards have together
abbrev pub bars : Accords → List ℕ → ℕ
bars table [] = 0
bars table (g ∷ gs) = noes table g + bars table gs
