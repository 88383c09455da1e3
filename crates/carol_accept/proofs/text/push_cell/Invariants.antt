use Rattle.std.proofs.Common.{◌≡◌, ◌++◌, length}
use Rattle.carol_accept.specs.Texts.{cell_text, ways_text}
use Rattle.carol_accept.proofs.AccordTexts.{AreWaysAt}
use Rattle.carol_accept.proofs.text.push_cell.Given as goal

abbrev pub invariant-loop-up : goal.invariant-loop-up
invariant-loop-up l =
    (l.out.items ++ ways_text l.names l.table l.guard l.cell l.left ≡ l.fn.out.items ++ cell_text l.names l.table l.guard l.cell l.fn.kind)
    × AreWaysAt l.table.kinds l.cell l.left

abbrev pub decreases-loop-up : goal.decreases-loop-up
decreases-loop-up l = length l.left
