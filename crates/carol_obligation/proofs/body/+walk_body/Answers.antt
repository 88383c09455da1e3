use Rattle.std.proofs.Common.{◌≡◌, ◌<◌, ◌≤◌, length, true, rules, arith, subst, sym, ◌∙◌, ap}
use Rattle.carol_formula.specs.Tree.{claim_of}
use Rattle.carol_program.specs.Bodies.{body_of, Query, Issue, Release, Branch, Return}
use Rattle.carol_program.specs.Rules.{rules_in, op_rules}
use Rattle.carol_program.specs.WellFormed.{setting_of}
use Rattle.carol_program.specs.declared.steps.Step.{the_lemmas, size-Step}
use Rattle.carol_obligation.specs.Collected.{behind_test, collected}
use Rattle.carol_obligation.specs.Passing.{Passes}
use Rattle.carol_obligation.specs.Ready.{point_of, IsReady}
use Rattle.carol_obligation.proofs.Loops.{left_query, left_issue, left_release, left_branch, left_return}
use Rattle.carol_obligation.proofs.PartTerms.{small_parts}
use Rattle.carol_obligation.proofs.Steps.{ready_room, ready_first}
use Rattle.carol_obligation.proofs.body.+walk_body.Goals as goal

pub past_query-requires-clause-round : goal.past_query-requires-clause-round
past_query-requires-clause-round g t c = (ready_room (rules_in c.args.of.program.now) _ (body_of c.loop-step.step.now) c.loop-step.invariant.here.ready).round

pub loop-step-preserved-in-Query : goal.loop-step-preserved-in-Query
loop-step-preserved-in-Query g t c =
    let step : body_of c.loop-step.step.now ≡ Query c.in-Query.number c.in-Query.guard c.in-Query.slot (body_of c.get-step.result.now) = search (rules, the_lemmas)
    in let less : size-Step c.get-step.result.now ≤ size-Step c.loop-step.step.now = search (rules, the_lemmas)
    in record {
      here = left_query g.C.Collector.holds c.args.collector.now c.loop-step.collector (rules_in c.args.of.program.now) (point_of c.args.of c.loop-step.standing) (point_of c.args.of c.in_ok-standing-in-Query.standing) (collected (rules_in c.args.of.program.now) (point_of c.args.of c.args.standing) (body_of c.args.body.now)) (body_of c.loop-step.step.now) c.in-Query.number c.in-Query.guard c.in-Query.slot (body_of c.get-step.result.now) c.requires.rules step c.in_ok-standing-in-Query.ensures c.loop-step.invariant.here;
      part = omega (arith, less, c.loop-step.invariant.part);
    }

pub collect_issue-requires-clause-room : goal.collect_issue-requires-clause-room
collect_issue-requires-clause-room g t c = ready_room (rules_in c.args.of.program.now) _ (body_of c.loop-step.step.now) c.loop-step.invariant.here.ready

pub collect_issue-requires-clause-parts : goal.collect_issue-requires-clause-parts
collect_issue-requires-clause-parts g t c =
    let p = rules_in c.args.of.program.now in
    let step : body_of c.loop-step.step.now ≡ Issue c.in-Issue.number c.in-Issue.parts (body_of c.in-Issue.next) = search (rules, the_lemmas)
    in let ready = subst (IsReady p (point_of c.args.of c.loop-step.standing)) step c.loop-step.invariant.here.ready
    in rw c.as_slice.ensures (small_parts (setting_of p.shape (length p.guards) (op_rules c.args.of.op.now)) ready.slots c.in-Issue.parts c.requires.rules.few_cells ready.fit.0)

pub past_closing-requires-clause-round : goal.past_closing-requires-clause-round
past_closing-requires-clause-round g t c = (ready_room (rules_in c.args.of.program.now) _ (body_of c.loop-step.step.now) c.loop-step.invariant.here.ready).round

pub loop-step-preserved-in-Issue : goal.loop-step-preserved-in-Issue
loop-step-preserved-in-Issue g t c =
    let step : body_of c.loop-step.step.now ≡ Issue c.in-Issue.number c.in-Issue.parts (body_of c.get-step-in-Issue.result.now) = search (rules, the_lemmas)
    in let less : size-Step c.get-step-in-Issue.result.now ≤ size-Step c.loop-step.step.now = search (rules, the_lemmas)
    in record {
      here = left_issue g.C.Collector.holds c.args.collector.now c.loop-step.collector c.collect_issue.new.collector (rules_in c.args.of.program.now) (point_of c.args.of c.loop-step.standing) (point_of c.args.of c.in_ok-standing-in-Issue.standing) (collected (rules_in c.args.of.program.now) (point_of c.args.of c.args.standing) (body_of c.args.body.now)) (body_of c.loop-step.step.now) c.in-Issue.number c.in-Issue.parts (body_of c.get-step-in-Issue.result.now) c.requires.rules step c.in_ok-standing-in-Issue.ensures c.loop-step.invariant.here (rw (sym c.as_slice.ensures) c.in_ok-collect_issue-in-Issue.ensures);
      part = omega (arith, less, c.loop-step.invariant.part);
    }

pub past_closing-requires-in-Release-clause-round : goal.past_closing-requires-in-Release-clause-round
past_closing-requires-in-Release-clause-round g t c = (ready_room (rules_in c.args.of.program.now) _ (body_of c.loop-step.step.now) c.loop-step.invariant.here.ready).round

pub loop-step-preserved-in-Release : goal.loop-step-preserved-in-Release
loop-step-preserved-in-Release g t c =
    let step : body_of c.loop-step.step.now ≡ Release c.in-Release.number (body_of c.get-step-in-Release.result.now) = search (rules, the_lemmas)
    in let less : size-Step c.get-step-in-Release.result.now ≤ size-Step c.loop-step.step.now = search (rules, the_lemmas)
    in record {
      here = left_release g.C.Collector.holds c.args.collector.now c.loop-step.collector (rules_in c.args.of.program.now) (point_of c.args.of c.loop-step.standing) (point_of c.args.of c.in_ok-standing-in-Release.standing) (collected (rules_in c.args.of.program.now) (point_of c.args.of c.args.standing) (body_of c.args.body.now)) (body_of c.loop-step.step.now) c.in-Release.number (body_of c.get-step-in-Release.result.now) c.requires.rules step c.in_ok-standing-in-Release.ensures c.loop-step.invariant.here;
      part = omega (arith, less, c.loop-step.invariant.part);
    }

pub walk_body-requires : goal.walk_body-requires
walk_body-requires g t c κs within =
    let p = rules_in c.args.of.program.now in
    let step : body_of c.loop-step.step.now ≡ Branch c.in-Branch.number (claim_of c.in-Branch.test) (body_of c.get.result.now) (body_of c.in-Branch.no) = search (rules, the_lemmas)
    in let less : size-Step c.get.result.now < size-Step c.loop-step.step.now = search (rules, the_lemmas)
    in let ready = subst (IsReady p (point_of c.args.of c.loop-step.standing)) step c.loop-step.invariant.here.ready
    in let first = ready_first p (point_of c.args.of c.loop-step.standing) c.in-Branch.number (claim_of c.in-Branch.test) (body_of c.get.result.now) (body_of c.in-Branch.no) ready
    in let smaller : size-Step c.get.result.now < size-Step c.args.body.now = omega (arith, less, c.loop-step.invariant.part)
    in let same = c.in_ok-first-in-Branch-2.ensures ∙ ap (λ s. behind_test (point_of c.args.of s) (claim_of c.in-Branch.test) true) c.in_ok-first-in-Branch.ensures
    in (search (rules, the_lemmas, smaller), (within, (c.requires.needs, (c.requires.rules, subst (λ x. IsReady p x (body_of c.get.result.now)) (sym same) first))))

pub loop-step-preserved : goal.loop-step-preserved
loop-step-preserved g t c =
    let p = rules_in c.args.of.program.now in
    let at = point_of c.args.of c.loop-step.standing in
    let holds = g.C.Collector.holds in
    let step : body_of c.loop-step.step.now ≡ Branch c.in-Branch.number (claim_of c.in-Branch.test) (body_of c.get.result.now) (body_of c.get-step-in-Branch.result.now) = search (rules, the_lemmas)
    in let less : size-Step c.get-step-in-Branch.result.now ≤ size-Step c.loop-step.step.now = search (rules, the_lemmas)
    in let same = c.in_ok-first-in-Branch-2.ensures ∙ ap (λ s. behind_test (point_of c.args.of s) (claim_of c.in-Branch.test) true) c.in_ok-first-in-Branch.ensures
    in let handed = subst (λ x. Passes holds c.loop-step.collector c.walk_body.new.collector (collected p x (body_of c.get.result.now))) same c.in_ok-walk_body-in-Branch.ensures
    in record {
      here = left_branch holds c.args.collector.now c.loop-step.collector c.walk_body.new.collector p at (point_of c.args.of c.in_ok-standing-in-Branch.standing) (collected p (point_of c.args.of c.args.standing) (body_of c.args.body.now)) (body_of c.loop-step.step.now) c.in-Branch.number (claim_of c.in-Branch.test) (body_of c.get.result.now) (body_of c.get-step-in-Branch.result.now) step c.in_ok-standing-in-Branch.ensures c.loop-step.invariant.here handed;
      part = omega (arith, less, c.loop-step.invariant.part);
    }

pub returns-in-Return : goal.returns-in-Return
returns-in-Return g t c =
    let p = rules_in c.args.of.program.now in
    let step : body_of c.loop-step.step.now ≡ Return c.in-Return.number c.in-Return.value = search (rules, the_lemmas)
    in left_return g.C.Collector.holds c.args.collector.now c.loop-step.collector c.collect_result.new.collector c.collect_result.result p (point_of c.args.of c.loop-step.standing) (collected p (point_of c.args.of c.args.standing) (body_of c.args.body.now)) (body_of c.loop-step.step.now) c.in-Return.number c.in-Return.value step c.loop-step.invariant.here c.collect_result.ensures
