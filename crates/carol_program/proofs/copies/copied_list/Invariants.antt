use Rattle.std.proofs.Common.{◌≡◌, ◌++◌, length}
use Rattle.carol_program.proofs.copies.copied_list.Given as goal

abbrev pub invariant-loop-item : goal.invariant-loop-item
invariant-loop-item g l = l.same ++ l.left ≡ l.items

abbrev pub decreases-loop-item : goal.decreases-loop-item
decreases-loop-item g l = length l.left
