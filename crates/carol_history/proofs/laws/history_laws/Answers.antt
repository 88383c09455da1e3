use Rattle.carol_history.proofs.Holdings.{held_within}
use Rattle.carol_history.proofs.Orders.{orders_agree, replicas_agree}
use Rattle.carol_history.proofs.Low.{few_stay_low}
use Rattle.carol_history.proofs.Named.{live_named, names_what_is}
use Rattle.carol_history.proofs.Goings.{done_is_none_under_way, forced_is_legal, global_grows, live_after, place_is_behind}
use Rattle.carol_history.proofs.Scripted.{script_is_single, script_runs}
use Rattle.carol_history.proofs.Single.{forced_is_single}
use Rattle.carol_history.proofs.laws.history_laws.Goals as goal

pub returns-clause-orders : goal.returns-clause-orders
returns-clause-orders c = orders_agree c.store_laws.ensures.two

pub returns-clause-replicas : goal.returns-clause-replicas
returns-clause-replicas c = replicas_agree c.store_laws.ensures.two

pub returns-clause-held : goal.returns-clause-held
returns-clause-held c = held_within

pub returns-clause-low : goal.returns-clause-low
returns-clause-low c = few_stay_low c.store_laws.ensures.little

pub returns-clause-named : goal.returns-clause-named
returns-clause-named c = names_what_is

pub returns-clause-live_named : goal.returns-clause-live_named
returns-clause-live_named c = live_named

pub returns-clause-live : goal.returns-clause-live
returns-clause-live c = live_after

pub returns-clause-forced : goal.returns-clause-forced
returns-clause-forced c = forced_is_legal

pub returns-clause-place : goal.returns-clause-place
returns-clause-place c = place_is_behind

pub returns-clause-single : goal.returns-clause-single
returns-clause-single c = λ p scene past session one other. forced_is_single p scene session past one other

pub returns-clause-grows : goal.returns-clause-grows
returns-clause-grows c = global_grows

pub returns-clause-script : goal.returns-clause-script
returns-clause-script c = script_runs

pub returns-clause-one_script : goal.returns-clause-one_script
returns-clause-one_script c = script_is_single

pub returns-clause-done : goal.returns-clause-done
returns-clause-done c = done_is_none_under_way
