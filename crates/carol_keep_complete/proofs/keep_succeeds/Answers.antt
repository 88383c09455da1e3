use Rattle.carol_keep_complete.proofs.Succeeds.{keeps_succeed}
use Rattle.carol_keep_complete.proofs.keep_succeeds.Goals as goal

pub returns : goal.returns
returns c = keeps_succeed c.one_outcome.ensures c.history_laws.ensures.one_script
