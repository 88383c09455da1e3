use Rattle.std.proofs.Common.{◌≡◌, ◌≤◌, map}
use Rattle.carol_program.specs.Bodies.{body_of}
use Rattle.carol_program.specs.declared.steps.Step.{size-Step}
use Rattle.carol_advise_guards.specs.Chains.{behind}
use Rattle.carol_advise_guards.specs.Under.{guarded}
use Rattle.carol_advise_guards.proofs.under.+step_under.Given as goal

abbrev pub decreases-step_under : goal.decreases-step_under
decreases-step_under l = goal.size-step_under l

abbrev pub invariant-loop-step : goal.invariant-loop-step
invariant-loop-step l =
    (behind l.guards (map (λ step. step.now) l.before.items) (guarded l.guards (body_of l.step)) ≡ guarded l.guards (body_of l.body)) × (size-Step l.step ≤ size-Step l.body)
