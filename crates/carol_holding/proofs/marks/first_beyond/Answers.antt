use Rattle.std.proofs.Common.{arith}
use Rattle.carol_holding.proofs.Marked.{before-more, first_in_word, none_beyond}
use Rattle.carol_holding.proofs.marks.first_beyond.Goals as goal

pub returns-then-beyond-ne0 : goal.returns-then-beyond-ne0
returns-then-beyond-ne0 c =
    first_in_word c.args.mine.now c.args.theirs.now c.loop-at.at c.word_at.result c.word_at-in-loop-at.result c.word_at.ensures c.word_at-in-loop-at.ensures
    (omega arith) (omega arith) c.loop-at.invariant (omega arith)

pub loop-at-preserved : goal.loop-at-preserved
loop-at-preserved c =
    before-more c.args.mine.now c.args.theirs.now c.loop-at.at c.word_at.result c.word_at-in-loop-at.result c.word_at.ensures c.word_at-in-loop-at.ensures
    (omega arith) (omega arith) c.loop-at.invariant (omega arith)

pub returns : goal.returns
returns c = none_beyond c.args.mine.now c.args.theirs.now c.loop-at.at (omega arith) c.loop-at.invariant
