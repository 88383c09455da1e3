use Rattle.std.proofs.Common.{◌≡◌, length}
use Rattle.carol_grant.specs.Tallies.{AreCells, agrees}
use Rattle.carol_grant.proofs.tally.Tally.agrees.Given as goal

abbrev pub invariant-loop-way : goal.invariant-loop-way
invariant-loop-way l = (agrees l.self l.other l.left ≡ agrees l.self l.other l.ways) × AreCells l.left

abbrev pub decreases-loop-way : goal.decreases-loop-way
decreases-loop-way l = length l.left
