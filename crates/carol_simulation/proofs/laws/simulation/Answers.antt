use Rattle.carol_simulation.proofs.Deciding.{table_decides}
use Rattle.carol_simulation.proofs.Going.{nobody_is_stuck}
use Rattle.carol_simulation.proofs.Whole.{AreLaws, attempts_are_read, runs_uphold}
use Rattle.carol_simulation.proofs.laws.simulation.Goals as goal

the_laws : goal.After-history_laws → AreLaws
the_laws c = record {
  commute = c.store_laws.ensures.two;
  reach = c.store_laws.ensures.steps;
  orders = c.history_laws.ensures.orders;
  agree = c.history_laws.ensures.replicas;
  low = c.history_laws.ensures.low;
}

pub returns-clause-uphold : goal.returns-clause-uphold
returns-clause-uphold c = runs_uphold (the_laws c)

pub returns-clause-going : goal.returns-clause-going
returns-clause-going c = nobody_is_stuck (the_laws c)

pub returns-clause-walks : goal.returns-clause-walks
returns-clause-walks c = attempts_are_read (the_laws c)

pub returns-clause-decided : goal.returns-clause-decided
returns-clause-decided c = table_decides
