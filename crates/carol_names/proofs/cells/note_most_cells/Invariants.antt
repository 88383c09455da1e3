use Rattle.std.proofs.Common.{◌≡◌, ◌++◌, map, drop}
use Rattle.std.specs.List.{flat_map}
use Rattle.carol_meaning.specs.Cells.{cell_names}
use Rattle.carol_names.proofs.cells.note_most_cells.Given as goal

abbrev pub invariant-loop-declaration : goal.invariant-loop-declaration
invariant-loop-declaration l =
    map (λ i. i.now) l.names.items ++ flat_map cell_names (drop l.declaration-index l.declarations) ≡ flat_map cell_names l.declarations
