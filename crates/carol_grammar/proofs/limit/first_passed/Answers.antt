use Rattle.carol_grammar.proofs.Counted.{counted_more, counted_over, counted_all}
use Rattle.carol_grammar.proofs.limit.first_passed.Goals as goal

pub loop-index-preserved : goal.loop-index-preserved
loop-index-preserved c = counted_more c.args.tokens.now c.loop-index.index c.loop-index.counts c.count_one-counts.result _ c.loop-index.invariant c.loop-index-test.true c.count_one-counts.ensures c.in_default.ensures

pub returns : goal.returns
returns c = counted_all c.args.tokens.now c.loop-index.index c.loop-index.counts c.loop-index.invariant c.loop-index-test.false

pub returns-in-Some : goal.returns-in-Some
returns-in-Some c = counted_over c.args.tokens.now c.loop-index.index c.loop-index.counts c.count_one-counts.result _ c.in-Some.limit c.loop-index.invariant c.loop-index-test.true c.count_one-counts.ensures c.in-Some.ensures
