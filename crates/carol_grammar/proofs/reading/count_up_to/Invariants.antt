use Rattle.std.proofs.Common.{take}
use Rattle.carol_grammar.specs.Reach.{BeginBy}
use Rattle.carol_grammar.proofs.reading.count_up_to.Given as goal

abbrev pub invariant-loop-index : goal.invariant-loop-index
invariant-loop-index l = BeginBy l.at (take l.index l.tokens)
