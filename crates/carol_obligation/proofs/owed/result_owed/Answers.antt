use Rattle.carol_formula.specs.Tree.{claim_of}
use Rattle.carol_obligation.proofs.Light.{nameable_result}
use Rattle.carol_obligation.proofs.owed.result_owed.Goals as goal

pub renamed-requires : goal.renamed-requires
renamed-requires c = nameable_result c.args.value.now _ (claim_of c.args.op.now.result) c.requires.value c.requires.op.result.terms
