use Rattle.std.proofs.Common.{rules, ◌∙◌}
use Rattle.std.specs.Int.{w128}
use Rattle.std.proofs.lemmas.Int.{to_z-of_z}
use Rattle.carol_formula.proofs.Orders.{denied}
use Rattle.carol_formula.proofs.Replacing.{seek_found, seek_step}
use Rattle.carol_formula.proofs.term.Term.coefficient.Goals as goal

pub returns-then-is_of-clause-value : goal.returns-then-is_of-clause-value
returns-then-is_of-clause-value c = to_z-of_z w128 c.in-Some.pair.now.1 (search rules) ∙ (seek_found _ _ _ _ _ c.loop-pair.invariant c.in-Some.ensures.cases.0 (search rules)).0

pub loop-pair-preserved : goal.loop-pair-preserved
loop-pair-preserved c = seek_step _ _ _ _ _ c.loop-pair.invariant c.in-Some.ensures.cases.0 (denied c.is_of.result _ c.is_of.ensures c.if-is_of.false)
