use Rattle.carol_meaning.proofs.Programs.{faultless_is_well_formed}
use Rattle.carol_meaning.proofs.laws.resolve_laws.Goals as goal

pub returns : goal.returns
returns c = faultless_is_well_formed
