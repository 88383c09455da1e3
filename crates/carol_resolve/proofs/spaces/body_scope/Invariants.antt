use Rattle.std.proofs.Common.{◌≡◌, [], map, drop}
use Rattle.carol_syntax.specs.Files.{param_tree}
use Rattle.carol_meaning.specs.Operations.{with_params}
use Rattle.carol_resolve.proofs.spaces.body_scope.Given as goal

abbrev pub invariant-loop-param : goal.invariant-loop-param
invariant-loop-param l =
    (l.number ≡ l.param-index) ×
    (with_params l.number l.scope (map param_tree (drop l.param-index l.params)) ≡ with_params 0 [] (map param_tree l.params))
