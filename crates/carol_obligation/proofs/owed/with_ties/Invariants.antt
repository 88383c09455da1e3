use Rattle.std.proofs.Common.{length}
use Rattle.carol_obligation.proofs.Loops.{Tying}
use Rattle.carol_obligation.proofs.owed.with_ties.Given as goal

abbrev pub invariant-loop-part : goal.invariant-loop-part
invariant-loop-part l = Tying l.kinds l.round l.left l.known l.parts l.fn.known

abbrev pub decreases-loop-part : goal.decreases-loop-part
decreases-loop-part l = length l.left
