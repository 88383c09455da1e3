use Rattle.std.proofs.Common.{◌≡◌, ◌≤◌, map}
use Rattle.carol_program.specs.Chains.{behind}
use Rattle.carol_program.specs.declared.steps.Step.{size-Step}
use Rattle.carol_program.proofs.steps.Step.+copy.Given as goal

abbrev pub decreases-copy : goal.decreases-copy
decreases-copy l = goal.size-copy l

abbrev pub invariant-loop-step : goal.invariant-loop-step
invariant-loop-step l =
    (behind (map (λ step. step.now) l.before.items) l.step ≡ l.self) × (size-Step l.step ≤ size-Step l.self)
