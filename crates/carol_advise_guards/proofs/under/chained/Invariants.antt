use Rattle.std.proofs.Common.{◌≡◌, map, vec_len}
use Rattle.carol_program.specs.Bodies.{body_of}
use Rattle.carol_advise_guards.specs.Chains.{behind}
use Rattle.carol_advise_guards.proofs.under.chained.Given as goal

abbrev pub invariant-loop-step : goal.invariant-loop-step
invariant-loop-step l =
    behind l.guards (map (λ step. step.now) l.before.items) (body_of l.chain) ≡ behind l.guards (map (λ step. step.now) l.fn.steps.items) (body_of l.fn.end)

abbrev pub decreases-loop-step : goal.decreases-loop-step
decreases-loop-step l = vec_len l.before
