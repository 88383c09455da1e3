use Rattle.std.proofs.Common.{ℕ, vec_len}
use Rattle.carol_formula.specs.Claim.{Claim}
use Rattle.carol_cert.specs.Proof.{proof_of}
use Rattle.carol_decide.specs.State.{IsOpenUnder}
use Rattle.carol_decide.proofs.walk.Walk.finish.Given as goal

abbrev pub invariant-loop-frame : goal.invariant-loop-frame
invariant-loop-frame l = (claim : Claim) (leaves : ℕ) → IsOpenUnder claim leaves l.initial.self.frames.items (proof_of l.initial.tree) → IsOpenUnder claim leaves l.self.frames.items (proof_of l.tree)

abbrev pub decreases-loop-frame : goal.decreases-loop-frame
decreases-loop-frame l = vec_len l.self.frames
