use Rattle.std.proofs.Common.{◌≡◌, List, subst}
use Rattle.std.specs.Prelude.{Option}
use Rattle.std.proofs.lemmas.Result.{IfOk-weaker}
use Rattle.carol_formula.specs.declared.term.Row.{Row}
use Rattle.carol_cert.specs.declared.step.RowStep.{RowStep}
use Rattle.carol_elimination.specs.Due.{IsDueFor}
use Rattle.carol_elimination.specs.Entries.{terms_of}
use Rattle.carol_linear.specs.Visit.{IsVisit}
use Rattle.carol_linear.specs.State.{Start, all_rows, IsAt, IsNext, CloseAt}
use Rattle.carol_linear.specs.declared.answer.RowsAnswer.{RowsAnswer}
use Rattle.carol_linear.specs.declared.visit.Visit.{Visit}
use Rattle.carol_linear.proofs.Climbing.{near_due, near_closes}
use Rattle.carol_linear.proofs.state.State.step.Goals as goal

-- what was found, of the rows and names themselves
found : (rows rows' : List Row) (names names' : List RowStep) (v w : Visit) → rows ≡ rows' → names ≡ names' → v ≡ w → IsVisit (terms_of rows) names v → IsVisit (terms_of rows') names' w
found rows rows' names names' v w r n e h =
    subst (λ (rs : List Row). IsVisit (terms_of rs) names' w) r (subst (λ (ns : List RowStep). IsVisit (terms_of rows) ns w) n (subst (IsVisit (terms_of rows) names) e h))

pub returns-in-Closed-clause-next : goal.returns-in-Closed-clause-next
returns-in-Closed-clause-next c =
    let s = c.args.self.now in
    let closes = found c.deref.result.now s.place.rows.items c.deref-2.result.now s.place.names.items _ _ c.deref.ensures.value c.deref-2.ensures.value c.in-Closed.is c.in_ok-steps.ensures in
    IfOk-weaker c.close_by.result
    (λ (o : Option RowsAnswer). (start : Start) → IsAt start s → CloseAt start s c.in-Closed.steps → IsNext start c.close_by.new.self o)
    (λ (o : Option RowsAnswer). (start : Start) → start.rows ≡ terms_of c.args.rows.now → start.names ≡ c.args.names.now → IsAt start s → IsNext start c.close_by.new.self o)
    (λ o next start r n h. next start h (near_closes start s c.in-Closed.steps h closes))
    c.close_by.ensures.next

pub returns-in-Branch-clause-next : goal.returns-in-Branch-clause-next
returns-in-Branch-clause-next c =
    let s = c.args.self.now in
    let f = c.in-Branch.frame in
    let due = found c.deref.result.now s.place.rows.items c.deref-2.result.now s.place.names.items _ _ c.deref.ensures.value c.deref-2.ensures.value c.in-Branch.is c.in_ok-steps.ensures in
    IfOk-weaker c.split.result
    (λ (o : Option RowsAnswer). (start : Start) → IsAt start s → IsDueFor (all_rows start s) f.variable f.k → IsNext start c.split.new.self o)
    (λ (o : Option RowsAnswer). (start : Start) → start.rows ≡ terms_of c.args.rows.now → start.names ≡ c.args.names.now → IsAt start s → IsNext start c.split.new.self o)
    (λ o next start r n h. next start h (near_due start s f.variable f.k h due.0))
    c.split.ensures.next
