use Rattle.carol_grammar.proofs.Counted.{AreCounted}
use Rattle.carol_grammar.proofs.limit.first_passed.Given as goal

abbrev pub invariant-loop-index : goal.invariant-loop-index
invariant-loop-index l = AreCounted l.tokens l.index l.counts
