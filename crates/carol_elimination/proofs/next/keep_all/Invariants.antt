use Rattle.std.proofs.Common.{take}
use Rattle.carol_elimination.specs.Entries.{rows_in, AreInside}
use Rattle.carol_elimination.specs.Extends.{Extend}
use Rattle.carol_elimination.proofs.next.keep_all.Given as goal

abbrev pub invariant-loop-at : goal.invariant-loop-at
invariant-loop-at l = record {
  inside : AreInside l.arena l.stage.rows.items;
  extend : Extend (rows_in l.arena l.fn.stage.rows.items) (rows_in l.arena l.stage.rows.items) (rows_in l.arena (take l.at-index l.rows));
}
