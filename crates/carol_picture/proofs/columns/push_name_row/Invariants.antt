use Rattle.std.proofs.Common.{◌≡◌, ◌++◌, drop}
use Rattle.carol_picture.specs.Columns.{name_row}
use Rattle.carol_picture.proofs.columns.push_name_row.Given as goal

abbrev pub invariant-loop-name : goal.invariant-loop-name
invariant-loop-name l = l.out.items ++ name_row (drop l.name-index l.cells) ≡ l.fn.out.items ++ name_row l.cells
