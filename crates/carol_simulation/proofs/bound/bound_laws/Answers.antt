use Rattle.carol_simulation.proofs.Events.{runs_are_short}
use Rattle.carol_simulation.proofs.Reach.{nobody_is_behind}
use Rattle.carol_simulation.proofs.bound.bound_laws.Goals as goal

pub returns-clause-short : goal.returns-clause-short
returns-clause-short c = runs_are_short

pub returns-clause-reach : goal.returns-clause-reach
returns-clause-reach c = nobody_is_behind
