use Rattle.carol_decide.proofs.Settling.{leaf_closes}
use Rattle.carol_decide.proofs.attempt.closed.Goals as goal

pub returns : goal.returns
returns c = λ claim claims left table closes some.
    leaf_closes claims left c.args.table.now c.deref.result.now c.in_ok-steps.steps c.args.steps.now c.deref.ensures.value table closes c.in_ok-steps.ensures some
