use Rattle.std.proofs.Common.{◌≡◌, ◌++◌, drop, length}
use Rattle.std.specs.Prelude.{flat_map}
use Rattle.std.specs.List.{enumerate_from}
use Rattle.std.specs.String.{string_bytes}
use Rattle.carol_report.specs.Report.{commands_text, results_text}
use Rattle.carol_report.proofs.results.push_results.Given as goal

abbrev pub invariant-loop-session : goal.invariant-loop-session
invariant-loop-session l =
    string_bytes l.out ++ flat_map (λ (session, plan). commands_text l.house.scene l.house.history session (length plan.commands)) (enumerate_from l.session (drop l.session l.house.scene.sessions))
    ≡ string_bytes l.fn.out ++ results_text l.house.scene l.house.history
