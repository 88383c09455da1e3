use Rattle.std.proofs.Common.{◌≡◌, ℕ, vec_len}
use Rattle.carol_formula.specs.Claim.{Claim}
use Rattle.carol_cert.specs.Proof.{proof_of}
use Rattle.carol_decide.specs.State.{IsUnder}
use Rattle.carol_decide.proofs.walk.Walk.climb.Given as goal

abbrev pub invariant-loop-frame : goal.invariant-loop-frame
invariant-loop-frame l = ((claim : Claim) (leaves : ℕ) → IsUnder claim leaves l.initial.self (proof_of l.initial.tree) → IsUnder claim leaves l.self (proof_of l.tree)) × (l.self.left ≡ l.initial.self.left)

abbrev pub decreases-loop-frame : goal.decreases-loop-frame
decreases-loop-frame l = vec_len l.self.frames
