use Rattle.std.proofs.Common.{rules, ◌∙◌}
use Rattle.std.specs.Int.{w128}
use Rattle.std.proofs.lemmas.Int.{to_z-of_z}
use Rattle.carol_formula.proofs.Summing.{sum_step}
use Rattle.carol_formula.proofs.term.Term.value_within.Goals as goal

pub loop-pair-preserved : goal.loop-pair-preserved
loop-pair-preserved g c = sum_step _ _ _ _ _ _ _ _ _ _ _ _ _ c.loop-pair.invariant c.in-Some.ensures.cases.0 (to_z-of_z w128 c.in-Some.pair.now.1 (search rules)) (to_z-of_z w128 c.value_of.result (search rules) ∙ c.value_of.ensures) (to_z-of_z w128 c.in_ok-product.product (search rules)) (to_z-of_z w128 c.in_ok-sum.sum (search rules)) c.in_ok-product.ensures.value c.in_ok-sum.ensures.value
