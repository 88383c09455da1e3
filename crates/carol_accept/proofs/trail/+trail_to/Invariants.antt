use Rattle.carol_accept.proofs.Going.{Going}
use Rattle.carol_accept.proofs.trail.+trail_to.Given as goal

abbrev pub decreases-trail_to : goal.decreases-trail_to
decreases-trail_to l = goal.size-trail_to l

abbrev pub invariant-loop-step : goal.invariant-loop-step
invariant-loop-step l = Going l.wanted l.trail l.step l.fn.trail l.fn.body
