use Rattle.std.proofs.Common.{take}
use Rattle.carol_elimination.specs.Stage.{combinations}
use Rattle.carol_elimination.specs.Entries.{row_in, rows_in, AreInside, Grow}
use Rattle.carol_elimination.specs.Extends.{Extend}
use Rattle.carol_elimination.specs.Sides.{KeepDerived}
use Rattle.carol_elimination.proofs.next.combine_one.Given as goal

abbrev pub invariant-loop-lower : goal.invariant-loop-lower
invariant-loop-lower l = record {
  inside : AreInside l.arena l.stage.rows.items;
  extend : Extend (rows_in l.fn.arena l.fn.stage.rows.items) (rows_in l.arena l.stage.rows.items) (combinations l.x (rows_in l.fn.arena (take l.lower-index l.lowers)) (row_in l.fn.arena l.upper));
  grow : Grow l.fn.arena l.arena;
  derived : KeepDerived l.fn.arena l.arena;
}
