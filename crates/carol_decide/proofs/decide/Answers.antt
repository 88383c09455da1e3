use Rattle.carol_formula.specs.Tree.{claim_of}
use Rattle.carol_decide.proofs.Walking.{root_from}
use Rattle.carol_decide.proofs.decide.Goals as goal

pub step-requires-clause-root : goal.step-requires-clause-root
step-requires-clause-root c = root_from (claim_of c.args.formula.now) c.requires.no_not c.requires.narrow c.requires.small
