use Rattle.std.proofs.Common.{◌≡◌, take}
use Rattle.carol_holding.specs.Rows.{HaveRoom, held_by}
use Rattle.carol_holding.proofs.holding.reserve_all.Given as goal

abbrev pub invariant-loop-row : goal.invariant-loop-row
invariant-loop-row l = record {
  held : held_by l.row-items ≡ held_by l.fn.rows.items;
  room : HaveRoom l.fn.rows.items → HaveRoom l.row-items;
  taken : HaveRoom (take l.row-index l.row-items);
}
