use Rattle.std.proofs.Common.{ap, map}
use Rattle.carol_syntax.specs.Files.{op_tree}
use Rattle.carol_names.proofs.NameLaws.{item_at}
use Rattle.carol_resolve.proofs.Known.{query-more}
use Rattle.carol_resolve.proofs.spaces.refinement_scope.Goals as goal

pub loop-name-preserved : goal.loop-name-preserved
loop-name-preserved c =
    query-more (op_tree c.args.op.now).params c.args.params.now _ _ _ c.name-item.result.now _ _
    (ap (map (λ i. i.now)) (item_at c.args.queries.now c.loop-name.name-index c.name-item.result c.loop-name-test.true c.name-item.is))
    c.requires.params c.in_ok-declare_query.ensures c.loop-name.invariant
