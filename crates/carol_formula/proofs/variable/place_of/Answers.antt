use Rattle.std.proofs.Common.{rules, refl}
use Rattle.carol_formula.proofs.Orders.{after}
use Rattle.carol_formula.proofs.Places.{place_found, place_before, place_step, place_end, place_index}
use Rattle.carol_formula.proofs.variable.place_of.Goals as goal

pub returns-then-is_of-clause-found : goal.returns-then-is_of-clause-found
returns-then-is_of-clause-found c = place_found _ _ _ _ _ _ c.loop-number.invariant c.in-Some.ensures.cases.0 (search rules) (place_index _ _ _ c.loop-number.invariant)

pub returns-then-not-is_before-clause-absent : goal.returns-then-not-is_before-clause-absent
returns-then-not-is_before-clause-absent c = place_before _ _ _ _ _ _ c.loop-number.invariant c.in-Some.ensures.cases.0 (after c.is_before.result c.is_of.result _ _ c.is_before.ensures (search rules) c.is_of.ensures (search rules)) (place_index _ _ _ c.loop-number.invariant)

pub loop-number-preserved : goal.loop-number-preserved
loop-number-preserved c = place_step _ _ _ _ _ c.loop-number.invariant c.in-Some.ensures.cases.0 (search rules)

pub returns-clause-absent : goal.returns-clause-absent
returns-clause-absent c = place_end _ _ _ _ c.loop-number.invariant c.in_default.ensures.cases refl
