use Rattle.std.proofs.Common.{◌≡◌, ◌+◌, length}
use Rattle.carol_program.specs.Accords.{row_length}
use Rattle.carol_program.proofs.accords.row_length.Given as goal

abbrev pub invariant-loop-kind : goal.invariant-loop-kind
invariant-loop-kind l = l.count + row_length l.left ≡ row_length l.kinds

abbrev pub decreases-loop-kind : goal.decreases-loop-kind
decreases-loop-kind l = length l.left
