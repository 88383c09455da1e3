use Rattle.std.proofs.Common.{◌≡◌, ◌+◌, ◌*◌, ◌≤◌, drop}
use Rattle.std.specs.List.{sum_by}
use Rattle.carol_picture.specs.Columns.{width}
use Rattle.carol_picture.proofs.columns.row_width.Given as goal

abbrev pub invariant-loop-name : goal.invariant-loop-name
invariant-loop-name l = (l.sum + sum_by width (drop l.name-index l.cells) ≡ sum_by width l.cells) × (l.sum ≤ 24 * l.name-index)
