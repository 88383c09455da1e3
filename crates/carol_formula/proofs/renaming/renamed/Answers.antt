use Rattle.std.proofs.Common.{sym, ◌∙◌, ap, subst, ◌≤◌}
use Rattle.carol_formula.specs.Claim.{Claim, truth, EachTerm}
use Rattle.carol_formula.specs.Tree.{claim_of}
use Rattle.carol_formula.specs.Weight.{weight}
use Rattle.carol_formula.proofs.Renamings.{truth-named_claim, weight-named_claim}
use Rattle.carol_formula.proofs.renaming.renamed.Goals as goal

pub returns-clause-truth : goal.returns-clause-truth
returns-clause-truth g c = λ at. ap (λ (d : Claim). truth d at) (ap claim_of c.into_inner.ensures ∙ c.in_ok-part.ensures) ∙ truth-named_claim (g.N.Naming.name_of c.args.naming.now) (claim_of c.args.formula.now) at

pub returns-clause-weight : goal.returns-clause-weight
returns-clause-weight g c = λ most h. subst (EachTerm (λ t. weight t ≤ most)) (sym (ap claim_of c.into_inner.ensures ∙ c.in_ok-part.ensures)) (weight-named_claim (g.N.Naming.name_of c.args.naming.now) most (claim_of c.args.formula.now) h)
