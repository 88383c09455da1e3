use Rattle.carol_grammar.proofs.Once.{bad_at_once, text_never_bad}
use Rattle.carol_grammar.proofs.laws.one_bad.Goals as goal

pub returns : goal.returns
returns c = record { place = bad_at_once c.one_cut.ensures; none = text_never_bad c.one_cut.ensures }
