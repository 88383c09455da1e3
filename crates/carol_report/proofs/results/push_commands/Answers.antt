use Rattle.std.proofs.Common.{◌++◌}
use Rattle.std.specs.String.{string_bytes}
use Rattle.carol_history.specs.Results.{result}
use Rattle.carol_report.specs.Report.{commands_text, result_line}
use Rattle.carol_report.proofs.Texts.{numbers_more}
use Rattle.carol_report.proofs.results.push_commands.Goals as goal

pub loop-command-preserved : goal.loop-command-preserved
loop-command-preserved c =
    let scene = c.args.house.now.scene
    in let past = c.args.house.now.history
    in rw (c.in_ok-push_result.ensures, c.outcome.ensures)
    (numbers_more (λ command. result_line c.args.session command (result scene c.args.session command past)) (string_bytes c.loop-command.out) c.loop-command.command c.args.count (string_bytes c.args.out.now ++ commands_text scene past c.args.session c.args.count) c.loop-command-test.true c.loop-command.invariant)
