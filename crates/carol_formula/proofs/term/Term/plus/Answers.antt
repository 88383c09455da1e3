use Rattle.std.proofs.Common.{◌∙◌, ap, rules}
use Rattle.std.specs.Int.{w128}
use Rattle.std.proofs.lemmas.Int.{to_z-of_z}
use Rattle.carol_formula.specs.Linear.{Linear}
use Rattle.carol_formula.proofs.Terms.{made, below-fits}
use Rattle.carol_formula.proofs.term.Term.plus.Goals as goal

pub invariant_of-result : goal.invariant_of-result
invariant_of-result c = (made c.args.self.now c.args.other.now c.args.by _ c.in-Some.rest _ _ _ _ _ c.in_ok-pairs.pairs.items (to_z-of_z w128 c.args.by c.ranges.by) (to_z-of_z w128 c.in-Some.rest (search rules))
    (to_z-of_z w128 c.self.inside.rest (below-fits c.self.inside.rest c.self.invariant.within.constant) ∙ ap (λ (t : Linear). t.rest) c.self.view_is)
    (to_z-of_z w128 c.other.inside.rest (below-fits c.other.inside.rest c.other.invariant.within.constant) ∙ ap (λ (t : Linear). t.rest) c.other.view_is)
    c.pairs.ensures.value c.pairs-2.ensures.value c.in_ok-pairs.ensures.ok c.in-Some.ensures).1

pub returns-clause-ok : goal.returns-clause-ok
returns-clause-ok c = made c.args.self.now c.args.other.now c.args.by _ c.in-Some.rest _ _ _ _ _ c.in_ok-pairs.pairs.items (to_z-of_z w128 c.args.by c.ranges.by) (to_z-of_z w128 c.in-Some.rest (search rules))
    (to_z-of_z w128 c.self.inside.rest (below-fits c.self.inside.rest c.self.invariant.within.constant) ∙ ap (λ (t : Linear). t.rest) c.self.view_is)
    (to_z-of_z w128 c.other.inside.rest (below-fits c.other.inside.rest c.other.invariant.within.constant) ∙ ap (λ (t : Linear). t.rest) c.other.view_is)
    c.pairs.ensures.value c.pairs-2.ensures.value c.in_ok-pairs.ensures.ok c.in-Some.ensures
