use Rattle.carol_worker.proofs.Going.{advanced_once}
use Rattle.carol_worker.proofs.finish.finish_session.Goals as goal

pub loop-preserved : goal.loop-preserved
loop-preserved c =
    advanced_once _ _ _ _ _ _ c.loop.invariant (rw c.in-Ok-Entered.field-0-is at c.in-Ok-Entered.ensures.ok)
