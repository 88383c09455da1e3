use Rattle.std.proofs.Common.{◌≡◌, ◌-◌, ◌≤◌, length}
use Rattle.carol_event.specs.Lines.{value_at, items_at}
use Rattle.carol_event.proofs.OneMore.{behind}
use Rattle.carol_event.proofs.items.values.Given as goal

abbrev pub invariant-loop-left : goal.invariant-loop-left
invariant-loop-left l =
    (behind l.values (items_at value_at (16 - length l.values) l.left) ≡ items_at value_at 16 l.fn.bytes) × (length l.values ≤ 16)

abbrev pub decreases-loop-left : goal.decreases-loop-left
decreases-loop-left l = 16 - length l.values
