use Rattle.std.proofs.Common.{◌≡◌, length}
use Rattle.carol_grant.specs.Tallies.{AreCells, is_clear}
use Rattle.carol_grant.proofs.tally.Tally.is_clear.Given as goal

abbrev pub invariant-loop-way : goal.invariant-loop-way
invariant-loop-way l = (is_clear l.self l.left ≡ is_clear l.self l.ways) × AreCells l.left

abbrev pub decreases-loop-way : goal.decreases-loop-way
decreases-loop-way l = length l.left
