use Rattle.std.proofs.Common.{◌≡◌, ◌+◌, drop}
use Rattle.carol_program.specs.Scenes.{commands_in}
use Rattle.carol_report.proofs.numbers.commands_in.Given as goal

abbrev pub invariant-loop-plan : goal.invariant-loop-plan
invariant-loop-plan l = l.count + commands_in (drop l.plan-index l.plan-items) ≡ commands_in l.scene.sessions
