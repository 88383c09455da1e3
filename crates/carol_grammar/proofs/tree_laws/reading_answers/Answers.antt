use Rattle.carol_grammar.proofs.OneTree.{reading_answers as law}
use Rattle.carol_grammar.proofs.tree_laws.reading_answers.Goals as goal

pub returns : goal.returns
returns c = law
