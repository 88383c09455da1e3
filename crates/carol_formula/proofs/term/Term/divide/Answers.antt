use Rattle.std.proofs.Common.{◌≡◌, ◌∙◌, sym, ap, subst, rules, unsigned_abs, pos, ◌≤ℤ◌, ◌↔◌, ℤ, to_z, of_z, length}
use Rattle.std.specs.Int.{w128}
use Rattle.std.proofs.lemmas.Int.{to_z-of_z}
use Rattle.carol_formula.specs.Linear.{Linear, IsTerm}
use Rattle.carol_formula.specs.Division.{quotient_of}
use Rattle.carol_formula.specs.Value.{value_at}
use Rattle.carol_formula.proofs.Division.{positive_abs, divided, IsTerm-quotient_of, quotient_same}
use Rattle.carol_formula.proofs.term.Term.divide.Goals as goal

-- what is made is the quotient
made : (c : goal.After-ceiling) → record { pairs = c.loop-pair.pairs.items; rest = to_z w128 (of_z w128 c.ceiling.result) } ≡ quotient_of (unsigned_abs c.args.by) c.args.self.now
made c =
    let k : to_z w128 (of_z w128 c.args.by) ≡ c.args.by = to_z-of_z w128 c.args.by c.ranges.by in
    let left : length c.loop-pair.left.now ≡ 0 = c.in_default.ensures.cases in
    divided c.args.self.now (unsigned_abs c.args.by) c.loop-pair.pairs.items c.loop-pair.left.now _ _ (rw k at c.loop-pair.invariant) left (to_z-of_z w128 c.rest.result (search rules) ∙ c.rest.ensures.value) (to_z-of_z w128 c.ceiling.result (search rules) ∙ rw k at c.ceiling.ensures)

is_term : (c : goal.After-ceiling) → IsTerm (quotient_of (unsigned_abs c.args.by) c.args.self.now)
is_term c = IsTerm-quotient_of _ c.args.self.now (positive_abs c.args.by c.requires.positive) c.requires.exact (subst IsTerm c.self.view_is c.self.invariant)

pub invariant_of-result : goal.invariant_of-result
invariant_of-result c = subst IsTerm (sym (made c)) (is_term c)

pub returns-clause-ok : goal.returns-clause-ok
returns-clause-ok c = (made c, subst IsTerm (sym (made c)) (is_term c))

pub returns-clause-same : goal.returns-clause-same
returns-clause-same c = λ f. subst (λ (u : Linear). (value_at u f ≤ℤ pos 0) ↔ (value_at c.args.self.now f ≤ℤ pos 0)) (sym (made c)) (quotient_same _ c.args.self.now f (positive_abs c.args.by c.requires.positive) c.requires.exact)
