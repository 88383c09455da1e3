use Rattle.std.specs.Int.{w128}
use Rattle.std.proofs.lemmas.Int.{to_z-of_z}
use Rattle.carol_formula.proofs.Replacing.{sifted, sift_end}
use Rattle.carol_formula.proofs.Terms.{below-fits}
use Rattle.carol_formula.proofs.term.Term.without.Goals as goal

pub invariant_of-result : goal.invariant_of-result
invariant_of-result c = sifted c.args.v c.args.self.now _ c.loop-pair.pairs.items _ c.self.invariant c.self.view_is (sift_end _ _ _ _ c.loop-pair.invariant c.in_default.ensures.cases) (to_z-of_z w128 c.self.inside.rest (below-fits c.self.inside.rest c.self.invariant.within.constant))
