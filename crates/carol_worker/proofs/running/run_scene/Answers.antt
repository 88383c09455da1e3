use Rattle.carol_worker.proofs.Bounding.{is_reached, is_short}
use Rattle.carol_worker.proofs.Going.{continues_more}
use Rattle.carol_worker.proofs.running.run_scene.Goals as goal

pub returns-clause-continues : goal.returns-clause-continues
returns-clause-continues g c =
    continues_more _ _ _ c.in_ok-house.ensures c.in_ok-finish.ensures.continues

pub returns-clause-short : goal.returns-clause-short
returns-clause-short g c =
    is_short _ _ c.bound_laws.ensures.short (continues_more _ _ _ c.in_ok-house.ensures c.in_ok-finish.ensures.continues) c.history-run.ensures.history

pub returns-clause-reach : goal.returns-clause-reach
returns-clause-reach g c =
    is_reached _ _ c.bound_laws.ensures.reach (continues_more _ _ _ c.in_ok-house.ensures c.in_ok-finish.ensures.continues) c.history-run.ensures.history
