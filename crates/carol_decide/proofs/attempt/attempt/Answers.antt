use Rattle.std.proofs.Common.{subst, map}
use Rattle.carol_formula.specs.Numbers.{number_at}
use Rattle.carol_formula.specs.Tree.{claim_of}
use Rattle.carol_formula.specs.Claim.{Le}
use Rattle.carol_cert.specs.Steps.{Closes}
use Rattle.carol_elimination.specs.Entries.{terms_of}
use Rattle.carol_decide.specs.Piece.{claims_in}
use Rattle.carol_decide.specs.Table.{IsTried}
use Rattle.carol_decide.proofs.Meeting.{makes_from}
use Rattle.carol_decide.proofs.attempt.attempt.Goals as goal

pub returns-in-Refuted : goal.returns-in-Refuted
returns-in-Refuted c =
    let closes = subst (IsTried (terms_of c.deref.result.now)) c.in-Refuted.is c.in_ok-steps.ensures in
    c.in_ok-closed-in-Refuted.ensures (claim_of c.args.formula.now) (claims_in c.args.pieces.now) c.args.left c.in_ok-table.ensures
    (subst (λ rows. Closes (map Le (terms_of rows)) c.in-Refuted.steps) c.deref.ensures.value closes) c.requires.some

pub returns-then-is_met : goal.returns-then-is_met
returns-then-is_met c =
    let met = c.is_met.ensures c.if-is_met.true in
    makes_from (number_at c.in-Numbers.values) (claim_of c.args.formula.now) c.requires.plain met.0 met.1
