use Rattle.carol_advise_word.proofs.Words.{long, short}
use Rattle.carol_advise_word.proofs.op_word.OpWord.new.Goals as goal

pub returns-then-word-gt-LONGEST_WORD : goal.returns-then-word-gt-LONGEST_WORD
returns-then-word-gt-LONGEST_WORD c = long c.args.word.now c.if-word-gt-LONGEST_WORD.true

pub returns : goal.returns
returns c = short c.copy_from_slice.new.self c.args.word.now c.if-word-gt-LONGEST_WORD.false c.copy_from_slice.ensures.after
