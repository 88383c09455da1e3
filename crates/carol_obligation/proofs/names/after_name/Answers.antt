use Rattle.std.proofs.Common.{◌<◌, subst, ◌∙◌, sym}
use Rattle.std.specs.Prelude.{IfSome}
use Rattle.carol_formula.specs.Weight.{weight}
use Rattle.carol_obligation.specs.Budget.{amount_limit}
use Rattle.carol_obligation.proofs.Light.{light_amount, after_name-is}
use Rattle.carol_obligation.proofs.names.after_name.Goals as goal

pub done_name-requires-clause-light : goal.done_name-requires-clause-light
done_name-requires-clause-light c = subst (λ o. IfSome o (λ t. weight t < amount_limit)) (sym c.in-Some.ensures) (light_amount c.args.cell c.args.parts.now c.requires.light)

pub returns : goal.returns
returns c = c.in_ok-done.ensures ∙ after_name-is c.args.kinds.now c.args.parts.now c.args.round c.args.cell _ c.in-Some.amount.now c.kind_at.ensures c.in-Some.ensures
