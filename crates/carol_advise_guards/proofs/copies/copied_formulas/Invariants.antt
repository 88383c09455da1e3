use Rattle.std.proofs.Common.{◌≡◌, ◌++◌, length}
use Rattle.carol_advise_guards.proofs.copies.copied_formulas.Given as goal

abbrev pub invariant-loop-formula : goal.invariant-loop-formula
invariant-loop-formula l = l.same ++ l.left ≡ l.formulas

abbrev pub decreases-loop-formula : goal.decreases-loop-formula
decreases-loop-formula l = length l.left
