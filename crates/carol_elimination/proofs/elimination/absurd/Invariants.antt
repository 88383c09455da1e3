use Rattle.std.proofs.Common.{take}
use Rattle.carol_elimination.specs.Entries.{rows_in}
use Rattle.carol_elimination.specs.Outcome.{AreSound}
use Rattle.carol_elimination.proofs.elimination.absurd.Given as goal

abbrev pub invariant-loop-at : goal.invariant-loop-at
invariant-loop-at l = AreSound (rows_in l.arena (take l.at-index l.rows))
