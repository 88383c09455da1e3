use Rattle.carol_generator.proofs.Right.{file_faultless}
use Rattle.carol_generator.proofs.laws.generated_is_faultless.Goals as goal

pub returns : goal.returns
returns c = file_faultless
