use Rattle.std.proofs.Common.{◌≡◌, ◌++◌, drop}
use Rattle.carol_picture.specs.Columns.{blank_row}
use Rattle.carol_picture.proofs.columns.push_blank_row.Given as goal

abbrev pub invariant-loop-name : goal.invariant-loop-name
invariant-loop-name l = l.out.items ++ blank_row (drop l.name-index l.cells) ≡ l.fn.out.items ++ blank_row l.cells
