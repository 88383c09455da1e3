use Rattle.carol_text.proofs.Found.{word_found, word_only}
use Rattle.carol_text.proofs.read.expect.Goals as goal

pub returns-clause-found : goal.returns-clause-found
returns-clause-found c = word_found c.after_word.result c.args.word.now c.args.bytes.now c.after_word.ensures

pub returns-clause-only : goal.returns-clause-only
returns-clause-only c = word_only c.after_word.result c.args.word.now c.args.bytes.now c.after_word.ensures
