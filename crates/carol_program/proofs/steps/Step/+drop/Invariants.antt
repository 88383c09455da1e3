use Rattle.std.proofs.Common.{◌≤◌}
use Rattle.carol_program.specs.declared.steps.Step.{size-Step}
use Rattle.carol_program.proofs.steps.Step.+drop.Given as goal

abbrev pub invariant-loop-self : goal.invariant-loop-self
invariant-loop-self l = size-Step l.self ≤ size-Step l.initial.self
