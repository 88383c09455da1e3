use Rattle.std.proofs.Common.{length, subst}
use Rattle.std.proofs.lemmas.List.{length-map}
use Rattle.carol_formula.specs.Numbers.{number_at}
use Rattle.carol_cert.specs.Proof.{proof_of}
use Rattle.carol_linear.specs.Answer.{IsAnswer}
use Rattle.carol_elimination.specs.Entries.{terms_of}
use Rattle.carol_decide.specs.Piece.{claim_of_piece, claims_in}
use Rattle.carol_decide.proofs.Settling.{model_makes, search_closes, spent_here, wide_case, far_case, found_by_search}
use Rattle.carol_decide.proofs.attempt.searched.Goals as goal

pub returns-in_ok-turns-in-Refuted : goal.returns-in_ok-turns-in-Refuted
returns-in_ok-turns-in-Refuted c = λ claim frames lead.
    let answer = found_by_search (claims_in c.args.pieces.now) c.args.table.now c.deref.result.now c.deref-2.result.now (length c.args.pieces.now) c.args.left c.in_ok-tree.field-0 c.deref.ensures.value c.deref-2.ensures.value c.requires.table c.requires.rows (length-map c.args.pieces.now claim_of_piece) c.in_ok-tree.ensures in
    search_closes (claims_in c.args.pieces.now) c.args.left c.in_ok-turns-in-Refuted.turns c.args.table.now (proof_of c.in-Refuted.tree) c.requires.table c.requires.other
    (subst (IsAnswer (claims_in c.args.pieces.now) (terms_of c.args.table.now.rows.items) c.args.left) c.in-Refuted.is answer) c.in_ok-turns-in-Refuted.ensures

pub returns-in-Model : goal.returns-in-Model
returns-in-Model c = λ claim frames lead.
    let answer = found_by_search (claims_in c.args.pieces.now) c.args.table.now c.deref.result.now c.deref-2.result.now (length c.args.pieces.now) c.args.left c.in_ok-tree.field-0 c.deref.ensures.value c.deref-2.ensures.value c.requires.table c.requires.rows (length-map c.args.pieces.now claim_of_piece) c.in_ok-tree.ensures in
    model_makes (number_at c.in-Model.values) claim frames (claims_in c.args.pieces.now) c.args.table.now c.requires.table c.requires.rows lead
    (subst (IsAnswer (claims_in c.args.pieces.now) (terms_of c.args.table.now.rows.items) c.args.left) c.in-Model.is answer)

pub returns-in-Spent : goal.returns-in-Spent
returns-in-Spent c = λ claim frames lead.
    let answer = found_by_search (claims_in c.args.pieces.now) c.args.table.now c.deref.result.now c.deref-2.result.now (length c.args.pieces.now) c.args.left c.in_ok-tree.field-0 c.deref.ensures.value c.deref-2.ensures.value c.requires.table c.requires.rows (length-map c.args.pieces.now claim_of_piece) c.in_ok-tree.ensures in
    spent_here (claims_in c.args.pieces.now) c.args.left c.args.table.now (proof_of c.in-Spent.tree) c.requires.table c.requires.other
    (subst (IsAnswer (claims_in c.args.pieces.now) (terms_of c.args.table.now.rows.items) c.args.left) c.in-Spent.is answer)

pub returns-in-Wide : goal.returns-in-Wide
returns-in-Wide c = λ claim frames lead.
    let answer = found_by_search (claims_in c.args.pieces.now) c.args.table.now c.deref.result.now c.deref-2.result.now (length c.args.pieces.now) c.args.left c.in_ok-tree.field-0 c.deref.ensures.value c.deref-2.ensures.value c.requires.table c.requires.rows (length-map c.args.pieces.now claim_of_piece) c.in_ok-tree.ensures in
    wide_case claim frames (claims_in c.args.pieces.now) c.args.table.now c.in-Wide.wide c.requires.table c.requires.other c.requires.rows lead
    (subst (IsAnswer (claims_in c.args.pieces.now) (terms_of c.args.table.now.rows.items) c.args.left) c.in-Wide.is answer)

pub returns-in-Far : goal.returns-in-Far
returns-in-Far c = λ claim frames lead.
    let answer = found_by_search (claims_in c.args.pieces.now) c.args.table.now c.deref.result.now c.deref-2.result.now (length c.args.pieces.now) c.args.left c.in_ok-tree.field-0 c.deref.ensures.value c.deref-2.ensures.value c.requires.table c.requires.rows (length-map c.args.pieces.now claim_of_piece) c.in_ok-tree.ensures in
    far_case claim frames (claims_in c.args.pieces.now) c.args.table.now c.in-Far.far c.requires.table c.requires.other c.requires.rows lead
    (subst (IsAnswer (claims_in c.args.pieces.now) (terms_of c.args.table.now.rows.items) c.args.left) c.in-Far.is answer)
