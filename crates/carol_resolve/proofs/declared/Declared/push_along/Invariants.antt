use Rattle.std.proofs.Common.{◌≡◌, ◌++◌, map, drop}
use Rattle.carol_meaning.specs.Bodies.{names_along, queries_named}
use Rattle.carol_resolve.proofs.declared.Declared.push_along.Given as goal

abbrev pub invariant-loop-statement : goal.invariant-loop-statement
invariant-loop-statement l =
    (map (λ i. i.now) l.self.names.items ++ names_along (drop l.statement-index l.plain) ≡ map (λ i. i.now) l.fn.self.names.items ++ names_along l.plain) ×
    (map (λ i. i.now) l.self.queries.items ++ queries_named (drop l.statement-index l.plain) ≡ map (λ i. i.now) l.fn.self.queries.items ++ queries_named l.plain)
