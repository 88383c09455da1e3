use Rattle.carol_complete.proofs.Deciding.{differences_are_decided}
use Rattle.carol_complete.proofs.laws.decided_laws.Goals as goal

pub returns : goal.returns
returns c = differences_are_decided
