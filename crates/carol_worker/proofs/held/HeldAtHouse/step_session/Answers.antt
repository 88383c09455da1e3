use Rattle.carol_worker.proofs.Going.{continues_more}
use Rattle.carol_worker.proofs.Steps.{continues_steps}
use Rattle.carol_worker.proofs.held.HeldAtHouse.step_session.Goals as goal

pub invariant_of-self : goal.invariant_of-self
invariant_of-self g c =
    continues_more _ _ _ c.self.invariant (continues_steps _ _ _ _ c.step_session.ensures)
