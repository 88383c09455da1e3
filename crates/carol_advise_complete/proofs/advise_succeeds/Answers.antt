use Rattle.carol_advise_complete.proofs.Succeeds.{advises_succeed}
use Rattle.carol_advise_complete.proofs.advise_succeeds.Goals as goal

pub returns : goal.returns
returns c = advises_succeed c.one_outcome.ensures
