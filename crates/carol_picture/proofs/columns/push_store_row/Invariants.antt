use Rattle.std.proofs.Common.{◌≡◌, ◌++◌, drop}
use Rattle.carol_picture.specs.Columns.{store_row}
use Rattle.carol_picture.proofs.columns.push_store_row.Given as goal

abbrev pub invariant-loop-name : goal.invariant-loop-name
invariant-loop-name l = l.out.items ++ store_row (drop l.name-index l.cells) l.left ≡ l.fn.out.items ++ store_row l.cells l.store
