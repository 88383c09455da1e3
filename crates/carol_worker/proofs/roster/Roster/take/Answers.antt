use Rattle.carol_worker.proofs.Dealing.{found_none, found_of, found_some, sees_rest, takes}
use Rattle.carol_worker.proofs.roster.Roster.take.Goals as goal

pub pop_as-requires-clause-rule : goal.pop_as-requires-clause-rule
pop_as-requires-clause-rule g c = (takes _ _, sees_rest _ _)

pub returns-clause-roster : goal.returns-clause-roster
returns-clause-roster g c =
    found_of _ _ _ _ _ _ _ _ c.taker.view_is c.pop_as.ensures.queue.0 c.pop_as.ensures.rule c.requires

pub returns-clause-some : goal.returns-clause-some
returns-clause-some g c =
    found_some _ _ _ _ _ _ _ c.taker.view_is c.pop_as.ensures.queue.0 c.pop_as.ensures.rule

pub returns-clause-none : goal.returns-clause-none
returns-clause-none g c =
    found_none _ _ _ _ _ _ _ c.taker.view_is c.pop_as.ensures.queue.0 c.pop_as.ensures.rule
