use Rattle.carol_program.proofs.Behind.{taken}
use Rattle.carol_program.proofs.chains.chained.Goals as goal

pub loop-step-preserved : goal.loop-step-preserved
loop-step-preserved c =
    taken (λ step. step.now) c.pop.new.self.items c.loop-step.before.items c.in-Some.step c.in-Some.ensures.items c.loop-step.chain c.in_ok-chain.chain _ c.in_ok-chain.ensures c.loop-step.invariant
