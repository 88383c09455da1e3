use Rattle.carol_holding.proofs.Marked.{is_marked-test}
use Rattle.carol_holding.proofs.marks.is_marked.Goals as goal

pub returns : goal.returns
returns c = is_marked-test c.args.words.now c.args.entry c.word_at.result c.word_at.ensures
