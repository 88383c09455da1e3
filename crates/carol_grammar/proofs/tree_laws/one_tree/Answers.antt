use Rattle.carol_grammar.proofs.OneTree.{one_tree as law}
use Rattle.carol_grammar.proofs.tree_laws.one_tree.Goals as goal

pub returns : goal.returns
returns c = law
