use Rattle.std.proofs.Common.{◌≡◌, ◌+◌, length}
use Rattle.carol_syntax.specs.Size.{cell_total}
use Rattle.carol_names.specs.Numbered.{most_numbers}
use Rattle.carol_resolve.proofs.counts.has_few_cells.Given as goal

abbrev pub invariant-loop-declaration : goal.invariant-loop-declaration
invariant-loop-declaration l = cell_total l.declarations + l.room ≡ cell_total l.left + most_numbers

abbrev pub decreases-loop-declaration : goal.decreases-loop-declaration
decreases-loop-declaration l = length l.left
