use Rattle.std.proofs.Common.{◌∙◌, ap}
use Rattle.carol_formula.specs.Tree.{claim_of}
use Rattle.carol_formula.proofs.Claims.{replaced_truth}
use Rattle.carol_formula.proofs.formula.Formula.substitute.Goals as goal

pub returns-clause-truth : goal.returns-clause-truth
returns-clause-truth c = replaced_truth c.args.v c.args.by.now (claim_of c.args.self.now) c.into_inner.result (ap claim_of c.into_inner.ensures ∙ c.in_ok-replaced.ensures.ok.0)
