use Rattle.std.proofs.Common.{◌≡◌, ◌+◌, length}
use Rattle.carol_advise_word.specs.Found.{named_from}
use Rattle.carol_advise_word.proofs.word.op_named.Given as goal

abbrev pub invariant-loop-op : goal.invariant-loop-op
invariant-loop-op l = (named_from l.number l.left l.name ≡ named_from 0 l.names.ops l.name) × (l.number + length l.left ≡ length l.names.ops)

abbrev pub decreases-loop-op : goal.decreases-loop-op
decreases-loop-op l = length l.left
