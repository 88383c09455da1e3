use Rattle.std.proofs.Common.{◌≡◌, ◌++◌, map, drop}
use Rattle.std.specs.List.{AllByRecursion}
use Rattle.carol_formula.specs.Tree.{claim_of}
use Rattle.carol_syntax.specs.Files.{param_tree}
use Rattle.carol_syntax.specs.Shape.{IsNamed}
use Rattle.carol_meaning.specs.Sizes.{IsShortNamed}
use Rattle.carol_meaning.specs.Faults.{earliest}
use Rattle.carol_meaning.specs.Operations.{with_params, refinement_faults, refinements}
use Rattle.carol_resolve.proofs.refining.refinements.Given as goal

abbrev pub invariant-loop-param : goal.invariant-loop-param
invariant-loop-param l =
    (l.number ≡ l.param-index) ×
    AllByRecursion IsNamed (map param_tree (drop l.param-index l.params)) ×
    AllByRecursion IsShortNamed (map param_tree (drop l.param-index l.params)) ×
    (with_params l.number l.scope (map param_tree (drop l.param-index l.params)) ≡ with_params 0 l.fn.scope (map param_tree l.params)) ×
    (earliest l.finder (refinement_faults l.around l.number l.scope (map param_tree (drop l.param-index l.params))) ≡ earliest l.fn.finder (refinement_faults l.around 0 l.fn.scope (map param_tree l.params))) ×
    (map claim_of l.list ++ refinements l.around l.number l.scope (map param_tree (drop l.param-index l.params)) ≡ refinements l.around 0 l.fn.scope (map param_tree l.params))
