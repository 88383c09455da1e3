use Rattle.std.proofs.Common.{◌≡◌, ◌++◌, length}
use Rattle.carol_advise_guards.proofs.copies.copied_parts.Given as goal

abbrev pub invariant-loop-part : goal.invariant-loop-part
invariant-loop-part l = l.same ++ l.left ≡ l.parts

abbrev pub decreases-loop-part : goal.decreases-loop-part
decreases-loop-part l = length l.left
