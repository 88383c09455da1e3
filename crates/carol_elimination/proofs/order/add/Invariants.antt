use Rattle.std.proofs.Common.{◌≡◌, length}
use Rattle.carol_elimination.specs.Stage.{with_pairs}
use Rattle.carol_elimination.proofs.order.add.Given as goal

abbrev pub invariant-loop-product : goal.invariant-loop-product
invariant-loop-product l = with_pairs l.left l.found.keys ≡ with_pairs l.products l.fn.found.keys

abbrev pub decreases-loop-product : goal.decreases-loop-product
decreases-loop-product l = length l.left
