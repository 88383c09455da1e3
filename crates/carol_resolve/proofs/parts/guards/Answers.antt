use Rattle.std.proofs.Common.{◌≡◌, ◌∷◌, map, drop, ◌+◌}
use Rattle.carol_program.specs.Rules.{guard_claim}
use Rattle.carol_syntax.specs.Shape.{IsNamed}
use Rattle.carol_meaning.specs.Sizes.{IsShortNamed}
use Rattle.carol_syntax.specs.Files.{guard_tree}
use Rattle.carol_meaning.specs.Terms.{formula_meaning, formula_faults}
use Rattle.carol_meaning.specs.Stores.{in_guard}
use Rattle.carol_resolve.proofs.Params.{tree_at, here_and_on}
use Rattle.carol_resolve.proofs.ListedLaws.{faults-on, views-on}
use Rattle.carol_resolve.proofs.parts.guards.Goals as goal

pub loop-declaration-preserved : goal.loop-declaration-preserved
loop-declaration-preserved c =
    let here : map guard_tree (drop c.loop-declaration.declaration-index c.args.guards.now) ≡ guard_tree c.declaration-item.result ∷ map guard_tree (drop (c.loop-declaration.declaration-index + 1) c.args.guards.now) =
    tree_at guard_tree c.args.guards.now c.loop-declaration.declaration-index c.declaration-item.result c.loop-declaration-test.true c.declaration-item.is in (
      (here_and_on IsNamed _ _ _ here c.loop-declaration.invariant.0).1,
      (here_and_on IsShortNamed _ _ _ here c.loop-declaration.invariant.1).1,
      faults-on (λ g. formula_faults (in_guard c.args.cells.now) g.formula) _ _ _ _ _ _ here c.in_ok-meant.ensures.faults c.loop-declaration.invariant.2,
      views-on (λ g. formula_meaning (in_guard c.args.cells.now) g.formula) guard_claim _ _ _ _ _ _ _ here c.in_ok-push.ensures.ok c.in_ok-meant.ensures.meaning c.loop-declaration.invariant.3,
    )
