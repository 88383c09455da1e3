use Rattle.std.proofs.Common.{◌≡◌, ◌++◌, drop}
use Rattle.std.specs.List.{flat_map}
use Rattle.carol_meaning.specs.Cells.{titles_in}
use Rattle.carol_names.proofs.names.titles.Given as goal

abbrev pub invariant-loop-declaration : goal.invariant-loop-declaration
invariant-loop-declaration l =
    l.names ++ flat_map titles_in (drop l.declaration-index l.declarations) ≡ flat_map titles_in l.declarations
