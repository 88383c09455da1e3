use Rattle.std.proofs.Common.{◌≡◌, ◌≤◌, ◌+◌, length}
use Rattle.carol_syntax.specs.Size.{cell_total}
use Rattle.carol_meaning.specs.Cells.{named_after}
use Rattle.carol_meaning.specs.Stores.{words}
use Rattle.carol_names.specs.Numbered.{most_numbers}
use Rattle.carol_names.proofs.cells.Cells.named.Given as goal

abbrev pub invariant-loop-declaration : goal.invariant-loop-declaration
invariant-loop-declaration l =
    (named_after l.before l.left l.first.word (words l.rest) ≡ named_after 0 l.self l.first.word (words l.rest)) ×
    (l.before + cell_total l.left ≤ most_numbers)

abbrev pub decreases-loop-declaration : goal.decreases-loop-declaration
decreases-loop-declaration l = length l.left
