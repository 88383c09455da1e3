use Rattle.std.proofs.Common.{◌≡◌, length}
use Rattle.carol_program.specs.Admitting.{admits, admits_all}
use Rattle.carol_program.specs.Accords.{AreWays}
use Rattle.carol_program.proofs.accords.AccordTable.admits.Given as goal

abbrev pub invariant-loop-direction : goal.invariant-loop-direction
invariant-loop-direction l =
    (admits_all l.self l.guard l.left ≡ admits l.self l.guard l.effect) × AreWays l.self.kinds l.left

abbrev pub decreases-loop-direction : goal.decreases-loop-direction
decreases-loop-direction l = length l.left
