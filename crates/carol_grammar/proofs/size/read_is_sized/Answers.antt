use Rattle.carol_grammar.proofs.Files.{read_is_sized as law}
use Rattle.carol_grammar.proofs.size.read_is_sized.Goals as goal

pub returns : goal.returns
returns c = law
