use Rattle.std.proofs.Common.{◌≡◌, ◌∷◌, map, drop, arith, ◌+◌}
use Rattle.carol_syntax.specs.Shape.{IsNamed}
use Rattle.carol_meaning.specs.Sizes.{IsShortNamed}
use Rattle.carol_syntax.specs.Files.{param_tree}
use Rattle.carol_resolve.proofs.Params.{tree_at, here_and_on, scope-more, faults-more, meaning-more}
use Rattle.carol_resolve.proofs.refining.refinements.Goals as goal

pub loop-param-preserved : goal.loop-param-preserved
loop-param-preserved c =
    let here : map param_tree (drop c.loop-param.param-index c.args.params.now) ≡ param_tree c.param-item.result ∷ map param_tree (drop (c.loop-param.param-index + 1) c.args.params.now) =
    tree_at param_tree c.args.params.now c.loop-param.param-index c.param-item.result c.loop-param-test.true c.param-item.is in (
      omega arith,
      (here_and_on IsNamed _ _ _ here c.loop-param.invariant.1).1,
      (here_and_on IsShortNamed _ _ _ here c.loop-param.invariant.2).1,
      scope-more _ _ _ _ (param_tree c.param-item.result) _ _ here c.in_ok-meant.ensures.scope c.loop-param.invariant.3,
      faults-more c.args.around.now _ _ _ _ _ _ (param_tree c.param-item.result) _ _ here c.in_ok-meant.ensures.scope c.in_ok-meant.ensures.faults c.loop-param.invariant.4,
      meaning-more c.args.around.now _ _ _ _ _ _ _ (param_tree c.param-item.result) _ _ here c.in_ok-meant.ensures.scope c.in_ok-push.ensures.ok c.in_ok-meant.ensures.meaning c.loop-param.invariant.5,
    )
