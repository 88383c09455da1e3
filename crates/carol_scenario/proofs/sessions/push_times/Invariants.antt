use Rattle.std.proofs.Common.{◌≡◌, ◌++◌, replicate}
use Rattle.carol_scenario.proofs.sessions.push_times.Given as goal

abbrev pub invariant-loop : goal.invariant-loop
invariant-loop l = l.commands ≡ l.fn.commands ++ replicate l.counter (record { op = l.op; args = l.args })
