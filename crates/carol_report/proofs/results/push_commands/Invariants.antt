use Rattle.std.proofs.Common.{◌≡◌, ◌-◌, ◌++◌}
use Rattle.std.specs.Prelude.{flat_map}
use Rattle.std.specs.List.{range_with_len}
use Rattle.std.specs.String.{string_bytes}
use Rattle.carol_history.specs.Results.{result}
use Rattle.carol_report.specs.Report.{commands_text, result_line}
use Rattle.carol_report.proofs.results.push_commands.Given as goal

abbrev pub invariant-loop-command : goal.invariant-loop-command
invariant-loop-command l =
    string_bytes l.out ++ flat_map (λ command. result_line l.session command (result l.house.scene l.session command l.house.history)) (range_with_len l.command (l.count - l.command))
    ≡ string_bytes l.fn.out ++ commands_text l.house.scene l.house.history l.session l.count
