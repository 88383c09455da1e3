use Rattle.std.proofs.Common.{◌≡◌, ◌+◌, ◌-◌, List, sym, ◌∙◌, ap, subst, arith}
use Rattle.std.specs.Prelude.{Option}
use Rattle.std.proofs.lemmas.Result.{IfOk-weaker}
use Rattle.carol_cert.specs.declared.step.RowStep.{RowStep}
use Rattle.carol_cert.specs.Proof.{Proof, Rows, proof_at, proof_of}
use Rattle.carol_cert.specs.declared.tree.Refutation.{fold-roll-Refutation}
use Rattle.carol_cert.specs.declared.tree.Refutation.TheOpen.{Refutation-F}
use Rattle.carol_cert.specs.declared.tree.Refutation.TheVariants as shape
use Rattle.carol_linear.specs.State.{Start, IsAt, IsUnder, IsNext, CloseAt}
use Rattle.carol_linear.specs.declared.answer.RowsAnswer.{RowsAnswer}
use Rattle.carol_linear.proofs.Climbing.{under_closed}
use Rattle.carol_linear.proofs.state.State.close_by.Goals as goal

rows_proof : (steps : List RowStep) → proof_of (shape.Rows steps) ≡ Rows steps
rows_proof steps = ap proof_of (sym (shape.rolls-Rows steps)) ∙ fold-roll-Refutation Proof proof_at (Refutation-F.Rows steps)

pub returns-clause-next : goal.returns-clause-next
returns-clause-next c =
    let s = c.args.self.now in
    let turn : s.left ≡ (s.left - 1) + 1 = omega arith in
    IfOk-weaker c.close.result
    (λ (o : Option RowsAnswer). (start : Start) → IsUnder start (record s { left = s.left - 1 }) (proof_of (shape.Rows c.args.steps)) → IsNext start c.close.new.self o)
    (λ (o : Option RowsAnswer). (start : Start) → IsAt start s → CloseAt start s c.args.steps → IsNext start c.close.new.self o)
    (λ o next start h closes. next start (subst (IsUnder start (record s { left = s.left - 1 })) (sym (rows_proof c.args.steps)) (under_closed start s (s.left - 1) c.args.steps h turn closes)))
    c.close.ensures.next
