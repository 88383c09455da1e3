use Rattle.carol_advise_word.proofs.Statuses.{statuses}
use Rattle.carol_advise_word.proofs.laws.advise_laws.Goals as goal

pub returns : goal.returns
returns c = record { status = statuses c.one_outcome.ensures }
