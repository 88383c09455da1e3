use Rattle.std.proofs.Common.{◌≡◌, map, vec_len}
use Rattle.carol_program.specs.Chains.{behind}
use Rattle.carol_program.proofs.chains.chained.Given as goal

abbrev pub invariant-loop-step : goal.invariant-loop-step
invariant-loop-step l =
    behind (map (λ step. step.now) l.before.items) l.chain ≡ behind (map (λ step. step.now) l.fn.steps.items) l.fn.end

abbrev pub decreases-loop-step : goal.decreases-loop-step
decreases-loop-step l = vec_len l.before
