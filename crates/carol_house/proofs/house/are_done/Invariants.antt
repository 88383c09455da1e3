use Rattle.std.proofs.Common.{◌≡◌, length}
use Rattle.carol_house.specs.Kept.{are_done}
use Rattle.carol_house.proofs.house.are_done.Given as goal

abbrev pub invariant-loop-machine : goal.invariant-loop-machine
invariant-loop-machine l = are_done l.left ≡ are_done l.machines

abbrev pub decreases-loop-machine : goal.decreases-loop-machine
decreases-loop-machine l = length l.left
