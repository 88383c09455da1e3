use Rattle.std.proofs.Common.{◌≡◌, length}
use Rattle.std.specs.Prelude.{map}
use Rattle.carol_formula.specs.Tree.{claim_of}
use Rattle.carol_obligation.specs.Formed.{with_all}
use Rattle.carol_obligation.proofs.known.with_all.Given as goal

abbrev pub invariant-loop-formula : goal.invariant-loop-formula
invariant-loop-formula l = with_all (map claim_of l.left) (claim_of l.known) ≡ with_all (map claim_of l.fn.formulas) (claim_of l.fn.known)

abbrev pub decreases-loop-formula : goal.decreases-loop-formula
decreases-loop-formula l = length l.left
