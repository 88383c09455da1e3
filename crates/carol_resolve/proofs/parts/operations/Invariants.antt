use Rattle.std.proofs.Common.{◌≡◌, ◌++◌, map, drop}
use Rattle.std.specs.List.{flat_map, AllByRecursion}
use Rattle.carol_program.specs.Rules.{op_rules}
use Rattle.carol_syntax.specs.Files.{op_tree}
use Rattle.carol_syntax.specs.Shape.{IsOp}
use Rattle.carol_meaning.specs.Sizes.{IsShortOp}
use Rattle.carol_meaning.specs.Faults.{earliest}
use Rattle.carol_meaning.specs.Operations.{op_faults, op_meaning, op_names}
use Rattle.carol_resolve.specs.Counts.{HasFewParams}
use Rattle.carol_resolve.proofs.parts.operations.Given as goal

abbrev pub invariant-loop-op : goal.invariant-loop-op
invariant-loop-op l =
    AllByRecursion IsOp (map op_tree (drop l.op-index l.ops)) ×
    AllByRecursion HasFewParams (map op_tree (drop l.op-index l.ops)) ×
    AllByRecursion IsShortOp (map op_tree (drop l.op-index l.ops)) ×
    (earliest l.finder (flat_map (op_faults l.around) (map op_tree (drop l.op-index l.ops))) ≡ earliest l.fn.finder (flat_map (op_faults l.around) (map op_tree l.ops))) ×
    (map op_rules l.list ++ map (op_meaning l.around) (map op_tree (drop l.op-index l.ops)) ≡ map (op_meaning l.around) (map op_tree l.ops)) ×
    (l.names ++ map op_names (map op_tree (drop l.op-index l.ops)) ≡ map op_names (map op_tree l.ops))
