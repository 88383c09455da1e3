use Rattle.carol_grammar.proofs.Once.{text_once}
use Rattle.carol_grammar.proofs.laws.one_text.Goals as goal

pub returns : goal.returns
returns c = text_once c.one_cut.ensures c.one_tree.ensures
