use Rattle.std.proofs.Common.{◌≡◌, ◌++◌, map, drop}
use Rattle.carol_resolve.proofs.declared.Declared.new.Given as goal

abbrev pub invariant-loop-param : goal.invariant-loop-param
invariant-loop-param l =
    map (λ i. i.now) l.names.items ++ map (λ p. p.name) (drop l.param-index l.param-items) ≡ map (λ p. p.name) l.param-items
