use Rattle.std.proofs.Common.{◌≡◌, ◌+◌, ◌≤◌, ◌++◌, length}
use Rattle.carol_program.specs.Rules.{rules_in}
use Rattle.carol_store.specs.Stores.{IsStore}
use Rattle.carol_picture.specs.Changes.{FitsAll}
use Rattle.carol_picture.specs.Marks.{marks}
use Rattle.carol_picture.specs.Places.{most_drawn}
use Rattle.carol_picture.proofs.marks.push_marks.Given as goal

abbrev pub invariant-loop-event : goal.invariant-loop-event
invariant-loop-event l =
    (l.out.items ++ marks (rules_in l.program) l.program.names l.scene l.row l.store l.left ≡ l.fn.out.items ++ marks (rules_in l.program) l.program.names l.scene 0 l.program.initial l.events)
    × IsStore l.program.shape l.store × FitsAll l.program.shape l.store l.left × (l.row + length l.left ≤ most_drawn)

abbrev pub decreases-loop-event : goal.decreases-loop-event
decreases-loop-event l = length l.left
