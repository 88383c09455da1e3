use Rattle.std.proofs.Common.{◌-◌, length}
use Rattle.carol_history.specs.declared.history.TheConstants.{MOST_EVENTS}
use Rattle.carol_report.proofs.Turning.{Running}
use Rattle.carol_report.proofs.rounds.run_in_turns.Given as goal

abbrev pub invariant-loop-house : goal.invariant-loop-house
invariant-loop-house l = Running l.fn.steps l.fn.house l.house

abbrev pub decreases-loop-house : goal.decreases-loop-house
decreases-loop-house l = MOST_EVENTS - length l.house.history
