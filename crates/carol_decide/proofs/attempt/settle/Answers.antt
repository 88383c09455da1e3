use Rattle.std.proofs.Common.{subst, ap, ◌∙◌}
use Rattle.std.specs.Prelude.{Some}
use Rattle.carol_formula.specs.Numbers.{number_at}
use Rattle.carol_decide.specs.Piece.{claims_in}
use Rattle.carol_decide.specs.Table.{IsDifferenceAnswer}
use Rattle.carol_decide.proofs.Settling.{closes_terms, differences_make}
use Rattle.carol_decide.proofs.attempt.settle.Goals as goal

pub returns-in-Refuted : goal.returns-in-Refuted
returns-in-Refuted c = λ claim frames lead.
    let answer = subst (λ rows. IsDifferenceAnswer rows c.in_ok-answer.field-0) c.deref.ensures.value c.in_ok-answer.ensures in
    c.in_ok-closed-in-Refuted.ensures claim (claims_in c.args.pieces.now) c.args.left c.in_ok-table.ensures
    (closes_terms c.in_ok-table.table.rows.items c.in-Refuted.steps (subst (IsDifferenceAnswer c.in_ok-table.table.rows.items) (c.in-Some.is ∙ ap Some c.in-Refuted.is) answer).0) c.requires.some

pub returns-in-Some : goal.returns-in-Some
returns-in-Some c = λ claim frames lead.
    let answer = subst (λ rows. IsDifferenceAnswer rows c.in_ok-answer.field-0) c.deref.ensures.value c.in_ok-answer.ensures in
    differences_make (number_at c.in-Model.values) claim frames (claims_in c.args.pieces.now) c.in_ok-table.table c.in_ok-table.ensures c.requires.rows lead
    (subst (IsDifferenceAnswer c.in_ok-table.table.rows.items) (c.in-Some.is ∙ ap Some c.in-Model.is) answer)
