use Rattle.std.proofs.Common.{true, ◌∙◌, ap}
use Rattle.carol_formula.specs.Tree.{claim_of}
use Rattle.carol_formula.proofs.Claims.{form_truth, form_plain}
use Rattle.carol_formula.proofs.formula.Formula.negation_form.Goals as goal

pub returns-clause-truth : goal.returns-clause-truth
returns-clause-truth c = form_truth true (claim_of c.args.self.now) c.into_inner.result (ap claim_of c.into_inner.ensures ∙ c.in_ok-signed_form.ensures)

pub returns-clause-no_not : goal.returns-clause-no_not
returns-clause-no_not c = form_plain true (claim_of c.args.self.now) c.into_inner.result (ap claim_of c.into_inner.ensures ∙ c.in_ok-signed_form.ensures)
