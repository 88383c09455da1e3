use Rattle.std.proofs.Common.{◌≡◌, [], map, drop}
use Rattle.carol_syntax.specs.Files.{op_tree}
use Rattle.carol_meaning.specs.Operations.{with_queries, param_names}
use Rattle.carol_meaning.specs.Stores.{words}
use Rattle.carol_resolve.proofs.spaces.refinement_scope.Given as goal

abbrev pub invariant-loop-name : goal.invariant-loop-name
invariant-loop-name l =
    with_queries (words (param_names (op_tree l.op))) l.scope (map (λ i. i.now) (drop l.name-index l.queries)) ≡
    with_queries (words (param_names (op_tree l.op))) [] (map (λ i. i.now) l.queries)
