use Rattle.std.proofs.Common.{◌≡◌, ◌++◌, map, drop}
use Rattle.std.specs.List.{flat_map, AllByRecursion}
use Rattle.carol_program.specs.Rules.{guard_claim}
use Rattle.carol_syntax.specs.Files.{guard_tree}
use Rattle.carol_syntax.specs.Shape.{IsNamed}
use Rattle.carol_meaning.specs.Sizes.{IsShortNamed}
use Rattle.carol_meaning.specs.Faults.{earliest}
use Rattle.carol_meaning.specs.Terms.{formula_meaning, formula_faults}
use Rattle.carol_meaning.specs.Stores.{in_guard}
use Rattle.carol_resolve.proofs.parts.guards.Given as goal

abbrev pub invariant-loop-declaration : goal.invariant-loop-declaration
invariant-loop-declaration l =
    AllByRecursion IsNamed (map guard_tree (drop l.declaration-index l.guards)) ×
    AllByRecursion IsShortNamed (map guard_tree (drop l.declaration-index l.guards)) ×
    (earliest l.finder (flat_map (λ g. formula_faults (in_guard l.cells) g.formula) (map guard_tree (drop l.declaration-index l.guards))) ≡ earliest l.fn.finder (flat_map (λ g. formula_faults (in_guard l.cells) g.formula) (map guard_tree l.guards))) ×
    (map guard_claim l.list ++ map (λ g. formula_meaning (in_guard l.cells) g.formula) (map guard_tree (drop l.declaration-index l.guards)) ≡ map (λ g. formula_meaning (in_guard l.cells) g.formula) (map guard_tree l.guards))
