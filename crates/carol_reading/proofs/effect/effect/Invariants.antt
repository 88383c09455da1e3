use Rattle.std.proofs.Common.{length}
use Rattle.carol_reading.proofs.Gathering.{Gathers}
use Rattle.carol_reading.proofs.effect.effect.Given as goal

abbrev pub invariant-loop-more : goal.invariant-loop-more
invariant-loop-more g l = Gathers l.fn.shape l.fn.parts (g.L.Lookup.numbers l.fn.at) l.atoms l.cell l.left

abbrev pub decreases-loop-more : goal.decreases-loop-more
decreases-loop-more g l = length l.left
