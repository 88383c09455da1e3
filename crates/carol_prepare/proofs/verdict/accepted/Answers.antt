use Rattle.carol_prepare.proofs.Refusals.{told_refused}
use Rattle.carol_prepare.proofs.verdict.accepted.Goals as goal

pub returns-in-Err-clause-told : goal.returns-in-Err-clause-told
returns-in-Err-clause-told g c =
    told_refused c.args.program c.in-Err.refused c.refusal.result c.in-Err.ensures.program c.in-Err.ensures.refused c.in-Err.ensures.fault c.refusal.ensures
