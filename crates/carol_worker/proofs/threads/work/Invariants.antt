use Rattle.carol_worker.specs.Rosters.{IsOf}
use Rattle.carol_worker.proofs.threads.work.Given as goal

abbrev pub invariant-loop : goal.invariant-loop
invariant-loop g l = IsOf l.roster l.taker
