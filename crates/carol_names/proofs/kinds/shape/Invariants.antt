use Rattle.std.proofs.Common.{◌≡◌, ◌+◌, ◌++◌, length, drop}
use Rattle.std.specs.List.{flat_map}
use Rattle.carol_syntax.specs.Size.{cell_total}
use Rattle.carol_meaning.specs.Cells.{kinds_in}
use Rattle.carol_names.proofs.kinds.shape.Given as goal

abbrev pub invariant-loop-declaration : goal.invariant-loop-declaration
invariant-loop-declaration l =
    (l.kinds ++ flat_map kinds_in (drop l.declaration-index l.declarations) ≡ flat_map kinds_in l.declarations) ×
    (length l.kinds + cell_total (drop l.declaration-index l.declarations) ≡ cell_total l.declarations)
