use Rattle.std.proofs.Common.{◌≡◌, ◌≤◌}
use Rattle.carol_report.specs.Summary.{refused_of}
use Rattle.carol_report.proofs.numbers.refused_of.Given as goal

abbrev pub invariant-loop-command : goal.invariant-loop-command
invariant-loop-command l =
    (l.refused ≡ refused_of l.house.scene l.house.history l.session l.command)
    × (l.refused ≤ l.command)
