use Rattle.carol_report.proofs.Turning.{Turning}
use Rattle.carol_report.proofs.rounds.take_turns.Given as goal

abbrev pub invariant-loop-session : goal.invariant-loop-session
invariant-loop-session l = Turning l.fn.house l.session l.house
