use Rattle.std.proofs.Common.{◌≡◌, ◌≤◌, ◌++◌, length, map}
use Rattle.std.specs.List.{AllByRecursion}
use Rattle.carol_program.specs.Limits.{most_commands}
use Rattle.carol_program.specs.Rules.{rules_in}
use Rattle.carol_program.specs.Scenes.{IsPlanOf, commands_in}
use Rattle.carol_machine.specs.States.{state_of}
use Rattle.carol_house.proofs.tables.machines_of.Given as goal

-- the machines so far and those of the plans that are left are those of all plans
abbrev pub invariant-loop-plan : goal.invariant-loop-plan
invariant-loop-plan l =
    (l.machines.items ++ map (λ plan. state_of plan l.tries) l.left ≡ map (λ plan. state_of plan l.tries) l.plans)
    × AllByRecursion (IsPlanOf (rules_in l.accepted.program) 8) l.left × (commands_in l.left ≤ most_commands)

abbrev pub decreases-loop-plan : goal.decreases-loop-plan
decreases-loop-plan l = length l.left
