use Rattle.carol_formula.specs.Numbers.{number_at}
use Rattle.carol_formula.specs.Tree.{claim_of}
use Rattle.carol_decide.proofs.Meeting.{makes_from}
use Rattle.carol_decide.proofs.tested.met.Goals as goal

pub returns-then-is_met-clause-answer : goal.returns-then-is_met-clause-answer
returns-then-is_met-clause-answer c =
    let met = c.is_met.ensures c.if-is_met.true in
    record { holds = met.1; fits = makes_from (number_at c.args.values) (claim_of c.args.formula.now) c.requires met.0 met.1 }
