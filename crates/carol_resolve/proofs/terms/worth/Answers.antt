use Rattle.carol_resolve.proofs.terms.worth.Goals as goal

pub returns-clause-faults : goal.returns-clause-faults
returns-clause-faults c = rw c.place_at-place.ensures at c.in_ok-worth.ensures.faults
