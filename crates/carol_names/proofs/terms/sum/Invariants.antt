use Rattle.std.proofs.Common.{◌≡◌, ◌*◌, drop}
use Rattle.std.specs.Prelude.{IfSome, Some, pos}
use Rattle.std.specs.List.{flat_map}
use Rattle.carol_formula.specs.Linear.{constant_of}
use Rattle.carol_meaning.specs.Faults.{earliest}
use Rattle.carol_meaning.specs.Terms.{product_faults, sum_after}
use Rattle.carol_names.specs.Bounded.{IsBounded, most_product}
use Rattle.carol_names.proofs.terms.sum.Given as goal

abbrev pub invariant-loop-part : goal.invariant-loop-part
invariant-loop-part g l =
    (earliest l.finder (flat_map (product_faults (g.G.Ground.look l.place)) (drop l.part-index l.products)) ≡
    earliest l.fn.finder (flat_map (product_faults (g.G.Ground.look l.place)) l.products)) ×
    (sum_after (g.G.Ground.look l.place) l.sum (drop l.part-index l.products) ≡ sum_after (g.G.Ground.look l.place) (Some (constant_of (pos 0))) l.products) ×
    IfSome l.sum (IsBounded (l.part-index * most_product))
