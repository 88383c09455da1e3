use Rattle.std.specs.Prelude.{◌↔◌, length, map}
use Rattle.std.specs.List.{AllByRecursion}
use Rattle.carol_syntax.specs.Files.{op_tree}
use Rattle.carol_resolve.specs.Counts.{HasFewParams}
use Rattle.carol_resolve.proofs.counts.has_few_params.Given as goal

abbrev pub invariant-loop-op : goal.invariant-loop-op
invariant-loop-op l = AllByRecursion HasFewParams (map op_tree l.ops) ↔ AllByRecursion HasFewParams (map op_tree l.left)

abbrev pub decreases-loop-op : goal.decreases-loop-op
decreases-loop-op l = length l.left
