use Rattle.std.proofs.Common.{take}
use Rattle.std.specs.Prelude.{flat_map}
use Rattle.carol_elimination.specs.Stage.{combinations}
use Rattle.carol_elimination.specs.Entries.{rows_in, AreInside, Grow}
use Rattle.carol_elimination.specs.Extends.{Extend}
use Rattle.carol_elimination.specs.Sides.{KeepDerived}
use Rattle.carol_elimination.proofs.next.combine_all.Given as goal

abbrev pub invariant-loop-upper : goal.invariant-loop-upper
invariant-loop-upper l = record {
  inside : AreInside l.arena l.stage.rows.items;
  extend : Extend (rows_in l.fn.arena l.fn.stage.rows.items) (rows_in l.arena l.stage.rows.items) (flat_map (combinations l.x (rows_in l.fn.arena l.lowers)) (rows_in l.fn.arena (take l.upper-index l.uppers)));
  grow : Grow l.fn.arena l.arena;
  derived : KeepDerived l.fn.arena l.arena;
}
