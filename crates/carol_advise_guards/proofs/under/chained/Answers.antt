use Rattle.carol_program.specs.Bodies.{body_of}
use Rattle.carol_advise_guards.proofs.Behind.{taken}
use Rattle.carol_advise_guards.proofs.under.chained.Goals as goal

pub loop-step-preserved : goal.loop-step-preserved
loop-step-preserved c =
    taken c.args.guards.now (λ step. step.now) c.pop.new.self.items c.loop-step.before.items c.in-Some.step c.in-Some.ensures.items (body_of c.loop-step.chain) (body_of c.in_ok-chain.chain) _ c.in_ok-chain.ensures c.loop-step.invariant
