-- Which effects a table of accords admits.
use Rattle.std.specs.Prelude.{ℕ, Bool, true, false, ◌&&◌, List, [], ◌∷◌, Option, Some, None}
use Rattle.carol_store.specs.declared.effect.Atom.{Atom}
use Rattle.carol_store.specs.declared.direction.Direction.{Direction}
use Rattle.carol_store.specs.Directions.{directions}
use Rattle.carol_program.specs.declared.accords.Entry.{Entry}
use Rattle.carol_program.specs.declared.accords.Entry.TheVariants.{Yes, No}
use Rattle.carol_program.specs.Accords.{Accords, entry_of}

-- there is an entry, and it is Yes
abbrev pub is_yes : Option Entry → Bool
is_yes (Some Yes) = true
is_yes (Some (No stores)) = false
is_yes None = false

-- the guard's entry of each direction is Yes
abbrev pub admits_all : Accords → ℕ → List Direction → Bool
admits_all table guard [] = true
admits_all table guard (d ∷ ds) =
    is_yes (entry_of table guard d.cell d.up) && admits_all table guard ds

-- the guard's accord has all directions of the effect
abbrev pub admits : Accords → ℕ → List Atom → Bool
admits table guard effect = admits_all table guard (directions table.kinds effect)
