use Rattle.carol_bank.proofs.Accepted.{bank_accepted}
use Rattle.carol_bank.proofs.bank_is_accepted.Goals as goal

pub returns : goal.returns
returns c = bank_accepted c.resolve_laws.ensures c.good_laws.ensures c.truth_laws.ensures
