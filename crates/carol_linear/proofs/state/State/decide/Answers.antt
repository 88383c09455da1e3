use Rattle.std.proofs.Common.{◌≡◌, ◌++◌, List, sym, ◌∙◌, ap, subst}
use Rattle.std.specs.Prelude.{Option}
use Rattle.std.proofs.lemmas.Result.{IfOk-weaker}
use Rattle.carol_formula.specs.Numbers.{number_at}
use Rattle.carol_formula.specs.Linear.{Linear}
use Rattle.carol_formula.specs.declared.term.Row.{Row}
use Rattle.carol_cert.specs.declared.step.RowStep.{RowStep}
use Rattle.carol_elimination.specs.Entries.{terms_of}
use Rattle.carol_linear.specs.Place.{names_from}
use Rattle.carol_linear.specs.Path.{frame_rows}
use Rattle.carol_linear.specs.Visit.{IsVisit}
use Rattle.carol_linear.specs.State.{Start, all_rows, IsAt, IsNext, CloseAt}
use Rattle.carol_linear.specs.declared.answer.RowsAnswer.{RowsAnswer}
use Rattle.carol_linear.specs.declared.state.State.{State}
use Rattle.carol_linear.specs.declared.visit.Visit.{Visit}
use Rattle.carol_linear.proofs.Climbing.{whole_closes}
use Rattle.carol_linear.proofs.Visits.{met_end, wide_end, far_end}
use Rattle.carol_linear.proofs.state.State.decide.Goals as goal

-- what was found, of all rows at the place
found : (start : Start) (s : State) (rows : List Linear) (names : List RowStep) (v w : Visit) → rows ≡ all_rows start s → v ≡ w → IsVisit rows names v → IsVisit (all_rows start s) names w
found start s rows names v w r e h = subst (λ (rs : List Linear). IsVisit rs names w) r (subst (IsVisit rows names) e h)

all_same : (start : Start) (s : State) (rows : List Linear) (given whole : List Row) → given ≡ whole → terms_of whole ≡ rows ++ frame_rows s.frames.items → start.rows ≡ rows → terms_of given ≡ all_rows start s
all_same start s rows given whole e is same = ap terms_of e ∙ is ∙ ap (λ (rs : List Linear). rs ++ frame_rows s.frames.items) (sym same)

names_same : (start : Start) (s : State) (names given whole : List RowStep) → given ≡ whole → whole ≡ names ++ names_from s.claims (frame_rows s.frames.items) → start.names ≡ names → given ≡ start.names ++ names_from s.claims (frame_rows s.frames.items)
names_same start s names given whole e is same = e ∙ is ∙ ap (λ (ns : List RowStep). ns ++ names_from s.claims (frame_rows s.frames.items)) (sym same)

pub returns-in-Closed-clause-next : goal.returns-in-Closed-clause-next
returns-in-Closed-clause-next c =
    let s = c.args.self.now in
    let rows = c.deref.result.now in
    let names = c.deref-2.result.now in
    IfOk-weaker c.close_by.result
    (λ (o : Option RowsAnswer). (start : Start) → IsAt start s → CloseAt start s c.in-Closed.steps → IsNext start c.close_by.new.self o)
    (λ (o : Option RowsAnswer). (start : Start) → start.rows ≡ terms_of c.args.rows.now → start.names ≡ c.args.names.now → IsAt start s → IsNext start c.close_by.new.self o)
    (λ o next start r n h. next start h (whole_closes start s (terms_of rows) names c.in-Closed.steps h
    (all_same start s (terms_of c.args.rows.now) rows c.in_ok-whole.whole.rows.items c.deref.ensures.value c.in_ok-whole.ensures.rows r)
    (names_same start s c.args.names.now names c.in_ok-whole.whole.names.items c.deref-2.ensures.value c.in_ok-whole.ensures.names n)
    (subst (IsVisit (terms_of rows) names) c.in-Closed.is c.in_ok-steps.ensures)))
    c.close_by.ensures.next

pub returns-in-Model-clause-next : goal.returns-in-Model-clause-next
returns-in-Model-clause-next c start r n h claims begins =
    let s = c.args.self.now in
    let all = all_same start s (terms_of c.args.rows.now) c.deref.result.now c.in_ok-whole.whole.rows.items c.deref.ensures.value c.in_ok-whole.ensures.rows r in
    met_end start s (number_at c.in-Model.values) (found start s (terms_of c.deref.result.now) c.deref-2.result.now _ _ all c.in-Model.is c.in_ok-steps.ensures)

pub returns-in-Wide-clause-next : goal.returns-in-Wide-clause-next
returns-in-Wide-clause-next c start r n h claims begins =
    let s = c.args.self.now in
    let all = all_same start s (terms_of c.args.rows.now) c.deref.result.now c.in_ok-whole.whole.rows.items c.deref.ensures.value c.in_ok-whole.ensures.rows r in
    let wide = found start s (terms_of c.deref.result.now) c.deref-2.result.now _ _ all c.in-Wide.is c.in_ok-steps.ensures in
    wide_end start s claims _ h begins (c.in_ok-branch_rows-in-Wide.ensures ∙ ap frame_rows c.deref-in-Wide.ensures.value) wide.0 wide.1 wide.2

pub returns-clause-next : goal.returns-clause-next
returns-clause-next c start r n h claims begins =
    let s = c.args.self.now in
    let all = all_same start s (terms_of c.args.rows.now) c.deref.result.now c.in_ok-whole.whole.rows.items c.deref.ensures.value c.in_ok-whole.ensures.rows r in
    let far = found start s (terms_of c.deref.result.now) c.deref-2.result.now _ _ all c.in-Far.is c.in_ok-steps.ensures in
    far_end start s claims _ h begins (c.in_ok-branch_rows-in-Far.ensures ∙ ap frame_rows c.deref-in-Far.ensures.value) far
