use Rattle.carol_worker.proofs.Going.{continues_more}
use Rattle.carol_worker.proofs.Steps.{continues_gossips}
use Rattle.carol_worker.proofs.held.HeldAtHouse.pass_on.Goals as goal

pub invariant_of-self : goal.invariant_of-self
invariant_of-self g c =
    continues_more _ _ _ c.self.invariant (continues_gossips _ _ _ _ _ c.pass_on.ensures)
