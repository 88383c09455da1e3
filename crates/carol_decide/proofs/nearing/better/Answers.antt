use Rattle.carol_formula.specs.Numbers.{number_at}
use Rattle.carol_formula.specs.Tree.{claim_of}
use Rattle.carol_decide.proofs.Meeting.{makes_from}
use Rattle.carol_decide.proofs.nearing.better.Goals as goal

pub returns-then-is_met : goal.returns-then-is_met
returns-then-is_met c =
    let met = c.is_met.ensures c.if-is_met.true in
    record { holds = met.1; fits = makes_from (number_at c.args.other) (claim_of c.args.formula.now) c.requires.no_not met.0 met.1 }
