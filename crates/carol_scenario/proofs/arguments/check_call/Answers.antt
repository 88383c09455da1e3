use Rattle.std.proofs.Common.{map}
use Rattle.carol_formula.specs.Tree.{claim_of}
use Rattle.carol_scenario.proofs.Fits.{refinements_fit}
use Rattle.carol_scenario.proofs.arguments.check_call.Goals as goal

pub check_arguments-requires-clause-fit : goal.check_arguments-requires-clause-fit
check_arguments-requires-clause-fit c =
    rw (c.as_words.ensures.numbers, c.as_slice.ensures) (refinements_fit 0 (map claim_of c.args.op.now.params) c.args.args.now c.requires.fit c.as_words.ensures.words)
