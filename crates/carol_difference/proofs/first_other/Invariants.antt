use Rattle.std.proofs.Common.{ℕ, ◌<◌}
use Rattle.carol_difference.specs.Rows.{IsDifference, row_at}
use Rattle.carol_difference.proofs.first_other.Given as goal

abbrev pub invariant-loop-number : goal.invariant-loop-number
invariant-loop-number l = (k : ℕ) → k < l.number → IsDifference (row_at l.rows k)
