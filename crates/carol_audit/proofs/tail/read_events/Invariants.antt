use Rattle.std.proofs.Common.{length}
use Rattle.carol_audit.specs.Tails.{Front}
use Rattle.carol_audit.proofs.tail.read_events.Given as goal

abbrev pub invariant-loop-events : goal.invariant-loop-events
invariant-loop-events l = Front l.tail l.events.items l.left

abbrev pub decreases-loop-events : goal.decreases-loop-events
decreases-loop-events l = length l.left
