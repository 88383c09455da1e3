use Rattle.std.proofs.Common.{◌≡◌, ◌∷◌, map, drop, ◌+◌}
use Rattle.carol_program.specs.Rules.{op_rules}
use Rattle.carol_syntax.specs.Shape.{IsOp}
use Rattle.carol_meaning.specs.Sizes.{IsShortOp}
use Rattle.carol_syntax.specs.Files.{op_tree}
use Rattle.carol_meaning.specs.Operations.{op_faults, op_meaning, op_names}
use Rattle.carol_resolve.specs.Counts.{HasFewParams}
use Rattle.carol_resolve.proofs.Params.{tree_at, here_and_on}
use Rattle.carol_resolve.proofs.ListedLaws.{faults-on, items-on, views-on}
use Rattle.carol_resolve.proofs.parts.operations.Goals as goal

pub loop-op-preserved : goal.loop-op-preserved
loop-op-preserved c =
    let here : map op_tree (drop c.loop-op.op-index c.args.ops.now) ≡ op_tree c.op-item.result ∷ map op_tree (drop (c.loop-op.op-index + 1) c.args.ops.now) =
    tree_at op_tree c.args.ops.now c.loop-op.op-index c.op-item.result c.loop-op-test.true c.op-item.is in (
      (here_and_on IsOp _ _ _ here c.loop-op.invariant.0).1,
      (here_and_on HasFewParams _ _ _ here c.loop-op.invariant.1).1,
      (here_and_on IsShortOp _ _ _ here c.loop-op.invariant.2).1,
      faults-on (op_faults c.args.around.now) _ _ _ _ _ _ here c.in_ok-meant.ensures.faults c.loop-op.invariant.3,
      views-on (op_meaning c.args.around.now) op_rules _ _ _ _ _ _ c.in_ok-meant.meant here c.in_ok-push.ensures.ok c.in_ok-meant.ensures.meaning c.loop-op.invariant.4,
      items-on op_names _ _ _ _ _ _ c.in_ok-meant.called here c.in_ok-push-2.ensures.ok c.in_ok-meant.ensures.names c.loop-op.invariant.5,
    )
