use Rattle.std.proofs.Common.{take}
use Rattle.carol_formula.specs.Numbers.{number_at}
use Rattle.carol_elimination.specs.Entries.{rows_in}
use Rattle.carol_elimination.specs.Limits.{AreBounds}
use Rattle.carol_elimination.proofs.reading.bounds_of.Given as goal

abbrev pub invariant-loop-at : goal.invariant-loop-at
invariant-loop-at l = AreBounds l.x (rows_in l.arena (take l.at-index l.rows)) (number_at l.values) l.bounds
