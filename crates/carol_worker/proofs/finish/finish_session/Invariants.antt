use Rattle.std.proofs.Common.{◌≤◌, length}
use Rattle.carol_history.specs.declared.history.TheConstants.{MOST_EVENTS}
use Rattle.carol_worker.specs.Running.{Continues}
use Rattle.carol_worker.proofs.finish.finish_session.Given as goal

abbrev pub invariant-loop : goal.invariant-loop
invariant-loop l =
    Continues l.fn.house l.house × (l.counter ≤ length l.house.history) × (length l.house.history ≤ MOST_EVENTS)
