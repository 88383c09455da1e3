use Rattle.std.proofs.Common.{◌≡◌, ◌∷◌, List, ℕ, length, sym, ◌∙◌, ap, subst, rules, arith}
use Rattle.std.specs.Prelude.{Err, None, IfErr}
use Rattle.carol_program.specs.Rules.{op_rules, rules_in}
use Rattle.carol_advise_guards.specs.Bars.{bars}
use Rattle.carol_advise_guards.specs.Under.{Assigns}
use Rattle.carol_advise.specs.Advised.{IsAdvice, IsReason}
use Rattle.carol_advise.specs.Attempts.{IsTried}
use Rattle.carol_advise.specs.Tried.{IsGoodUnder}
use Rattle.carol_advise.specs.declared.answer.Rejected.{Rejected}
use Rattle.carol_advise.proofs.Trying.{Trying, advised, least, never_left, next_assigns, stopped}
use Rattle.carol_advise.proofs.advised.first_good.Goals as goal

pub attempt-requires-clause-assigns : goal.attempt-requires-clause-assigns
attempt-requires-clause-assigns c =
    let p = rules_in c.args.program.now in
    let op = op_rules c.args.op.now in
    subst (Assigns (length p.guards) op) (sym c.as_slice.ensures)
    (next_assigns p c.args.table.now c.args.number op c.args.list.now c.requires.list c.loop-guards.left.now c.in-Some.more.now c.in-Some.guards.now c.loop-guards.rejected c.in-Some.ensures.cases.0 c.loop-guards.invariant)

pub returns-in_err-bad-clause-reason : goal.returns-in_err-bad-clause-reason
returns-in_err-bad-clause-reason c =
    let p = rules_in c.args.program.now in
    let op = op_rules c.args.op.now in
    let error = c.in_err-bad.field-0.0 in
    let is : c.from_residual.result ≡ Err error = search rules in
    subst (λ r. IfErr r (IsReason p c.args.table.now c.args.number op)) (sym is)
    (stopped p c.args.table.now c.args.number op c.args.list.now c.requires.list c.loop-guards.left.now c.in-Some.more.now c.in-Some.guards.now c.as_slice.result.now c.loop-guards.rejected error c.in-Some.ensures.cases.0 c.loop-guards.invariant c.as_slice.ensures c.in_err-bad.ensures.stopped)

pub advice-requires-clause-guards : goal.advice-requires-clause-guards
advice-requires-clause-guards c =
    let p = rules_in c.args.program.now in
    let op = op_rules c.args.op.now in
    let assigns : Assigns (length p.guards) op c.as_slice-in-None.result.now = subst (Assigns (length p.guards) op) (sym c.as_slice-in-None.ensures)
    (next_assigns p c.args.table.now c.args.number op c.args.list.now c.requires.list c.loop-guards.left.now c.in-Some.more.now c.in-Some.guards.now c.loop-guards.rejected c.in-Some.ensures.cases.0 c.loop-guards.invariant) in
    assigns.declared

pub advice-requires-clause-few : goal.advice-requires-clause-few
advice-requires-clause-few c =
    let p = rules_in c.args.program.now in
    let op = op_rules c.args.op.now in
    let assigns : Assigns (length p.guards) op c.as_slice-in-None.result.now = subst (Assigns (length p.guards) op) (sym c.as_slice-in-None.ensures)
    (next_assigns p c.args.table.now c.args.number op c.args.list.now c.requires.list c.loop-guards.left.now c.in-Some.more.now c.in-Some.guards.now c.loop-guards.rejected c.in-Some.ensures.cases.0 c.loop-guards.invariant) in
    omega (arith, assigns.count, c.requires.op.few_queries)

pub returns-in-None-clause-advice : goal.returns-in-None-clause-advice
returns-in-None-clause-advice c =
    let p = rules_in c.args.program.now in
    let op = op_rules c.args.op.now in
    let a = c.in_ok-advice-in-None.field-0 in
    let trying : Trying p c.args.number op c.args.list.now a.rejected c.loop-guards.left.now =
    subst (λ (r : List Rejected). Trying p c.args.number op c.args.list.now r c.loop-guards.left.now) (sym c.in_ok-advice-in-None.ensures.rejected) c.loop-guards.invariant in
    let tried : IsGoodUnder p op c.as_slice.result.now = subst (IsTried p c.args.number op c.as_slice.result.now) c.in-None.is c.in_ok-bad.ensures.tried in
    let good : IsGoodUnder p op c.in-Some.guards.now = subst (IsGoodUnder p op) c.as_slice.ensures tried in
    advised p c.args.table.now c.args.number op c.args.list.now c.requires.list c.loop-guards.left.now c.in-Some.more.now c.in-Some.guards.now a c.in-Some.ensures.cases.0 trying good
    (c.in_ok-advice-in-None.ensures.guards ∙ c.as_slice-in-None.ensures) (c.in_ok-advice-in-None.ensures.bars ∙ ap (bars c.args.table.now) c.as_slice-in-None.ensures)

pub returns-in-None-clause-least : goal.returns-in-None-clause-least
returns-in-None-clause-least c =
    let p = rules_in c.args.program.now in
    let op = op_rules c.args.op.now in
    let a = c.in_ok-advice-in-None.field-0 in
    let trying : Trying p c.args.number op c.args.list.now a.rejected c.loop-guards.left.now =
    subst (λ (r : List Rejected). Trying p c.args.number op c.args.list.now r c.loop-guards.left.now) (sym c.in_ok-advice-in-None.ensures.rejected) c.loop-guards.invariant in
    let tried : IsGoodUnder p op c.as_slice.result.now = subst (IsTried p c.args.number op c.as_slice.result.now) c.in-None.is c.in_ok-bad.ensures.tried in
    let good : IsGoodUnder p op c.in-Some.guards.now = subst (IsGoodUnder p op) c.as_slice.ensures tried in
    let is : IsAdvice p c.args.table.now c.args.number op a =
    advised p c.args.table.now c.args.number op c.args.list.now c.requires.list c.loop-guards.left.now c.in-Some.more.now c.in-Some.guards.now a c.in-Some.ensures.cases.0 trying good
    (c.in_ok-advice-in-None.ensures.guards ∙ c.as_slice-in-None.ensures) (c.in_ok-advice-in-None.ensures.bars ∙ ap (bars c.args.table.now) c.as_slice-in-None.ensures) in
    least p c.args.table.now c.args.number op c.args.list.now c.requires.list a trying.bad is

pub unreachable-requires : goal.unreachable-requires
unreachable-requires c =
    let p = rules_in c.args.program.now in
    let op = op_rules c.args.op.now in
    never_left p c.args.table.now c.args.number op c.args.list.now c.requires.list c.loop-guards.left.now c.loop-guards.rejected c.requires.op c.requires.good c.in_default.ensures.cases c.loop-guards.invariant
