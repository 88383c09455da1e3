use Rattle.carol_formula.specs.Tree.{claim_of}
use Rattle.carol_program.specs.Variables.{invariant_variables, number_in}
use Rattle.carol_reading.proofs.Fitting.{claim_fits}
use Rattle.carol_accept.proofs.Starting.{near_store}
use Rattle.carol_accept.proofs.check.starts_well.Goals as goal

pub holds-requires : goal.holds-requires
holds-requires c =
    claim_fits (invariant_variables c.args.program.now.shape) (claim_of c.args.program.now.invariant) (number_in c.args.program.now.initial) c.requires.invariant.terms
    (near_store c.args.program.now.initial c.values-words.ensures.words)
