use Rattle.std.proofs.Common.{subst}
use Rattle.carol_cert.specs.Proof.{proof_of}
use Rattle.carol_linear.specs.State.{IsAbove}
use Rattle.carol_linear.proofs.Climbing.{refuted_end}
use Rattle.carol_linear.proofs.state.State.close.Goals as goal

pub returns-else-self-clause-next : goal.returns-else-self-clause-next
returns-else-self-clause-next c start h =
    let above = subst (IsAbove start c.climb.new.self) c.in-Some.is (c.in_ok-tree.ensures.above start h) in
    refuted_end start c.climb.new.self (proof_of c.in-Some.tree) above.0 above.1 c.if-self.false
