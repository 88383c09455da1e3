use Rattle.carol_resolve.proofs.terms.test.Goals as goal

pub returns-clause-faults : goal.returns-clause-faults
returns-clause-faults c = rw c.place_at-place.ensures at c.in_ok-test.ensures.faults

pub returns-clause-meaning : goal.returns-clause-meaning
returns-clause-meaning c = rw c.place_at-place.ensures at c.in_ok-test.ensures.meaning
