use Rattle.std.proofs.Common.{length}
use Rattle.carol_store.specs.Stores.{AreWords}
use Rattle.carol_store.proofs.store.as_words.Given as goal

abbrev pub invariant-loop-number : goal.invariant-loop-number
invariant-loop-number l = AreWords l.left → AreWords l.fn.numbers

abbrev pub decreases-loop-number : goal.decreases-loop-number
decreases-loop-number l = length l.left
