use Rattle.carol_grammar.proofs.Told.{told_all}
use Rattle.carol_grammar.proofs.laws.told_means.Goals as goal

pub returns : goal.returns
returns c = told_all
