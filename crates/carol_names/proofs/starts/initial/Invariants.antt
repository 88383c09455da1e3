use Rattle.std.proofs.Common.{◌≡◌, ◌+◌, ◌++◌, length, drop}
use Rattle.std.specs.List.{flat_map}
use Rattle.carol_syntax.specs.Size.{cell_total}
use Rattle.carol_meaning.specs.Cells.{starts_in}
use Rattle.carol_names.proofs.starts.initial.Given as goal

abbrev pub invariant-loop-declaration : goal.invariant-loop-declaration
invariant-loop-declaration l =
    (l.starts ++ flat_map starts_in (drop l.declaration-index l.declarations) ≡ flat_map starts_in l.declarations) ×
    (length l.starts + cell_total (drop l.declaration-index l.declarations) ≡ cell_total l.declarations)
