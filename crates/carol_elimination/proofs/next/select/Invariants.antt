use Rattle.std.proofs.Common.{◌≡◌, take}
use Rattle.std.specs.List.{filter}
use Rattle.carol_elimination.specs.Entries.{rows_in, AreInside}
use Rattle.carol_elimination.specs.Sides.{is_of}
use Rattle.carol_elimination.proofs.next.select.Given as goal

abbrev pub invariant-loop-at : goal.invariant-loop-at
invariant-loop-at l = record {
  inside : AreInside l.arena l.selected.items;
  filter : rows_in l.arena l.selected.items ≡ filter (is_of l.side l.x) (rows_in l.arena (take l.at-index l.rows));
}
