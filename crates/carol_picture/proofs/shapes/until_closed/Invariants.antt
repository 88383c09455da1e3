use Rattle.std.proofs.Common.{◌≡◌, ◌+◌, length}
use Rattle.carol_picture.specs.Shapes.{until_closed}
use Rattle.carol_picture.proofs.shapes.until_closed.Given as goal

abbrev pub invariant-loop-event : goal.invariant-loop-event
invariant-loop-event l =
    (l.rows + until_closed l.session l.left ≡ until_closed l.session l.later) × (l.rows + length l.left ≡ length l.later)

abbrev pub decreases-loop-event : goal.decreases-loop-event
decreases-loop-event l = length l.left
