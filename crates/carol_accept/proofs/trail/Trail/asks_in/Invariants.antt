use Rattle.std.proofs.Common.{◌≡◌, length}
use Rattle.carol_accept.specs.Lines.{asks_in}
use Rattle.carol_accept.proofs.trail.Trail.asks_in.Given as goal

abbrev pub invariant-loop-first : goal.invariant-loop-first
invariant-loop-first l = asks_in l.round l.left ≡ asks_in l.fn.round l.fn.self.asked

abbrev pub decreases-loop-first : goal.decreases-loop-first
decreases-loop-first l = length l.left
