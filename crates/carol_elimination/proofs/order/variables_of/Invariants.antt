use Rattle.std.proofs.Common.{◌≡◌, length}
use Rattle.carol_elimination.specs.Stage.{variables}
use Rattle.carol_elimination.specs.Entries.{terms_of}
use Rattle.carol_elimination.proofs.Ordering.{with_rows}
use Rattle.carol_elimination.proofs.order.variables_of.Given as goal

abbrev pub invariant-loop-row : goal.invariant-loop-row
invariant-loop-row l = with_rows (terms_of l.left) l.found.keys ≡ variables (terms_of l.rows)

abbrev pub decreases-loop-row : goal.decreases-loop-row
decreases-loop-row l = length l.left
