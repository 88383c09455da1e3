use Rattle.std.proofs.Common.{◌≡◌, length}
use Rattle.carol_reading.specs.Readings.{amount_for}
use Rattle.carol_reading.proofs.effect.amount_for.Given as goal

abbrev pub invariant-loop-part : goal.invariant-loop-part
invariant-loop-part l = amount_for l.cell l.left ≡ amount_for l.cell l.parts

abbrev pub decreases-loop-part : goal.decreases-loop-part
decreases-loop-part l = length l.left
