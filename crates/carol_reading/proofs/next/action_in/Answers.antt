use Rattle.std.proofs.Common.{rules, ◌≡◌, ◌-◌, suc, sym, subst, arith}
use Rattle.std.specs.List.{AllByRecursion}
use Rattle.carol_store.specs.Stores.{AreWords}
use Rattle.carol_formula.specs.Bounds.{AreNear}
use Rattle.carol_formula.specs.Tree.{claim_of}
use Rattle.carol_program.specs.Bodies.{body_of, Query, Issue, Release, Branch, Return}
use Rattle.carol_program.specs.Variables.{number_of_args}
use Rattle.carol_program.specs.declared.steps.Step.{the_lemmas}
use Rattle.carol_reading.specs.Readings.{with_queries}
use Rattle.carol_reading.proofs.Fitting.{word_bound, near-numbers}
use Rattle.carol_reading.proofs.Going.{over_query, over_issue, over_release, test_fits, value_fits, parts_fit}
use Rattle.carol_reading.proofs.next.action_in.Goals as goal

pub loop-step-preserved-in-Query : goal.loop-step-preserved-in-Query
loop-step-preserved-in-Query c =
    let step : body_of c.loop-step.step.now ≡ Query c.in-Query.number c.in-Query.guard c.in-Query.slot (body_of c.get-step.result.now) = search (rules, the_lemmas)
    in let left : c.loop-step.left ≡ suc (c.loop-step.left - 1) = omega arith
    in over_query c.in-Query.number c.in-Query.guard c.in-Query.slot (body_of c.get-step.result.now) (c.loop-step.left - 1) c.push.new.self c.requires.action c.loop-step.invariant step left c.push.ensures

pub loop-step-preserved-in-Issue : goal.loop-step-preserved-in-Issue
loop-step-preserved-in-Issue c =
    let step : body_of c.loop-step.step.now ≡ Issue c.in-Issue.number c.in-Issue.parts (body_of c.get-step-in-Issue.result.now) = search (rules, the_lemmas)
    in let left : c.loop-step.left ≡ suc (c.loop-step.left - 1) = omega arith
    in over_issue c.in-Issue.number c.in-Issue.parts (body_of c.get-step-in-Issue.result.now) (c.loop-step.left - 1) c.loop-step.invariant step left

pub loop-step-preserved-in-Release : goal.loop-step-preserved-in-Release
loop-step-preserved-in-Release c =
    let step : body_of c.loop-step.step.now ≡ Release c.in-Release.number (body_of c.get-step-in-Release.result.now) = search (rules, the_lemmas)
    in let left : c.loop-step.left ≡ suc (c.loop-step.left - 1) = omega arith
    in over_release c.in-Release.number (body_of c.get-step-in-Release.result.now) (c.loop-step.left - 1) c.loop-step.invariant step left

pub effect-requires-clause-fit : goal.effect-requires-clause-fit
effect-requires-clause-fit c =
    let step : body_of c.loop-step.step.now ≡ Issue c.in-Issue.number c.in-Issue.parts (body_of c.in-Issue.next) = search (rules, the_lemmas)
    in let near : AreNear word_bound (with_queries c.loop-step.slots c.stores-stores.result.now (number_of_args c.args.args.now)) = near-numbers c.args.args.now c.loop-step.slots c.stores-stores.result.now c.requires.words (subst (AllByRecursion AreWords) (sym c.stores-stores.ensures.stores) c.stores-stores.ensures.kept.words)
    in rw (c.as_slice.ensures.items, c.as_slice-then-left-eq0-2.ensures) (parts_fit c.in-Issue.number c.in-Issue.parts (body_of c.in-Issue.next) c.loop-step.invariant step near)

pub holds-requires : goal.holds-requires
holds-requires c =
    let step : body_of c.loop-step.step.now ≡ Branch c.in-Branch.number (claim_of c.in-Branch.test) (body_of c.in-Branch.yes) (body_of c.in-Branch.no) = search (rules, the_lemmas)
    in let near : AreNear word_bound (with_queries c.loop-step.slots c.stores-stores.result.now (number_of_args c.args.args.now)) = near-numbers c.args.args.now c.loop-step.slots c.stores-stores.result.now c.requires.words (subst (AllByRecursion AreWords) (sym c.stores-stores.ensures.stores) c.stores-stores.ensures.kept.words)
    in rw c.as_slice.ensures.items (test_fits c.in-Branch.number (claim_of c.in-Branch.test) (body_of c.in-Branch.yes) (body_of c.in-Branch.no) c.loop-step.invariant step near)

pub value-requires : goal.value-requires
value-requires c =
    let step : body_of c.loop-step.step.now ≡ Return c.in-Return.number c.in-Return.value = search (rules, the_lemmas)
    in let near : AreNear word_bound (with_queries c.loop-step.slots c.stores-stores.result.now (number_of_args c.args.args.now)) = near-numbers c.args.args.now c.loop-step.slots c.stores-stores.result.now c.requires.words (subst (AllByRecursion AreWords) (sym c.stores-stores.ensures.stores) c.stores-stores.ensures.kept.words)
    in rw c.as_slice.ensures.items (value_fits c.in-Return.number c.in-Return.value c.loop-step.invariant step near)
