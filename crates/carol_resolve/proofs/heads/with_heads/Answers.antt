use Rattle.carol_resolve.proofs.Chains.{wrap_more}
use Rattle.carol_resolve.proofs.heads.with_heads.Goals as goal

pub loop-head-preserved : goal.loop-head-preserved
loop-head-preserved c = wrap_more _ _ _ _ _ _ c.in-Some.ensures.items c.in_ok-step.ensures c.loop-head.invariant
