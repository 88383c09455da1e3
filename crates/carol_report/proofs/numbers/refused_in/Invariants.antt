use Rattle.std.proofs.Common.{◌≡◌, ◌+◌, ◌≤◌, drop}
use Rattle.carol_program.specs.Scenes.{commands_in}
use Rattle.carol_report.specs.Summary.{refused_in}
use Rattle.carol_report.proofs.numbers.refused_in.Given as goal

abbrev pub invariant-loop-session : goal.invariant-loop-session
invariant-loop-session l =
    (l.count + refused_in l.house.scene l.house.history l.session (drop l.session l.house.scene.sessions)
    ≡ refused_in l.house.scene l.house.history 0 l.house.scene.sessions)
    × (l.count + commands_in (drop l.session l.house.scene.sessions) ≤ commands_in l.house.scene.sessions)
