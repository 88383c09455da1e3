use Rattle.std.proofs.Common.{ap}
use Rattle.carol_cert.specs.Place.{claims_at, claim_of_item}
use Rattle.carol_cert.proofs.Vanishing.{above_zero_vanishes}
use Rattle.carol_cert.proofs.leaf.item_vanishes.Goals as goal

pub returns-in-Positive : goal.returns-in-Positive
returns-in-Positive c =
    above_zero_vanishes (claims_at c.args.place.now) c.args.steps.now _ c.in-Positive.term.now _ _ (ap claim_of_item c.in-Positive.is) c.pairs-in-Positive.ensures.value c.each_vanishes-in-Positive.ensures
