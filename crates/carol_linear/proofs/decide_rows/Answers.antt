use Rattle.std.proofs.Common.{List, ◌≡◌, length, map, sym, ◌∙◌, subst}
use Rattle.std.proofs.lemmas.Result.{IfOk-weaker}
use Rattle.std.proofs.lemmas.List.{length-map}
use Rattle.carol_formula.specs.Claim.{Claim, Le}
use Rattle.carol_formula.specs.declared.term.Row.{Row}
use Rattle.carol_cert.specs.declared.step.RowStep.{RowStep}
use Rattle.carol_elimination.specs.Due.{rows_at, AreRows}
use Rattle.carol_linear.specs.Names.{AreNamed}
use Rattle.carol_elimination.specs.Entries.{terms_of}
use Rattle.carol_linear.specs.Answer.{IsAnswer}
use Rattle.carol_linear.specs.declared.answer.RowsAnswer.{RowsAnswer}
use Rattle.carol_linear.proofs.Places.{shows_own}
use Rattle.carol_linear.proofs.decide_rows.Goals as goal

pub returns : goal.returns
returns c =
    let terms = terms_of c.args.rows.now in
    let shows = shows_own terms in
    let named = subst (λ (names : List RowStep). AreNamed (map Le terms) names terms) (sym (c.deref.ensures.value ∙ c.in_ok-names.ensures)) shows.named in
    IfOk-weaker c.search.result
    (λ (a : RowsAnswer). (list : List Claim) → AreNamed list c.deref.result.now terms → AreRows list → rows_at list ≡ terms → length list ≡ length c.args.rows.now → IsAnswer list terms c.args.leaves a)
    (IsAnswer (map Le terms) terms c.args.leaves)
    (λ a answer. answer (map Le terms) named shows.plain shows.same (shows.counted ∙ length-map c.args.rows.now (λ (r : Row). r.0)))
    c.search.ensures
