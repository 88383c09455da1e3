use Rattle.carol_grammar.proofs.Once.{outcome_once}
use Rattle.carol_grammar.proofs.laws.one_outcome.Goals as goal

pub returns : goal.returns
returns c = outcome_once c.one_cut.ensures c.one_tree.ensures
