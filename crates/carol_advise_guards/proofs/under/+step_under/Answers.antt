use Rattle.std.proofs.Common.{◌≡◌, ◌≤◌, rules, arith}
use Rattle.carol_program.specs.Bodies.{body_of}
use Rattle.carol_program.specs.declared.steps.Step.{the_lemmas, size-Step}
use Rattle.carol_advise_guards.specs.Chains.{followed_by}
use Rattle.carol_advise_guards.specs.Under.{guarded}
use Rattle.carol_advise_guards.proofs.Behind.{put}
use Rattle.carol_advise_guards.proofs.under.+step_under.Goals as goal

pub loop-step-preserved-in-Query : goal.loop-step-preserved-in-Query
loop-step-preserved-in-Query t c =
    let gs = c.args.guards.now
    in let step : followed_by gs c.loop-step.step.now (guarded gs (body_of c.get-step.result.now)) ≡ guarded gs (body_of c.loop-step.step.now) = search (rules, the_lemmas)
    in let less : size-Step c.get-step.result.now ≤ size-Step c.loop-step.step.now = search (rules, the_lemmas)
    in (put gs (λ step. step.now) c.loop-step.before.items c.push.new.self.items c.loop-step.step c.in_ok-push-in-Query.ensures.items (guarded gs (body_of c.loop-step.step.now)) (guarded gs (body_of c.get-step.result.now)) (guarded gs (body_of c.args.body.now)) step c.loop-step.invariant.0, omega (arith, less, c.loop-step.invariant.1))

pub loop-step-preserved-in-Issue : goal.loop-step-preserved-in-Issue
loop-step-preserved-in-Issue t c =
    let gs = c.args.guards.now
    in let step : followed_by gs c.loop-step.step.now (guarded gs (body_of c.get-step-in-Issue.result.now)) ≡ guarded gs (body_of c.loop-step.step.now) = search (rules, the_lemmas)
    in let less : size-Step c.get-step-in-Issue.result.now ≤ size-Step c.loop-step.step.now = search (rules, the_lemmas)
    in (put gs (λ step. step.now) c.loop-step.before.items c.push-in-Issue.new.self.items c.loop-step.step c.in_ok-push-in-Issue.ensures.items (guarded gs (body_of c.loop-step.step.now)) (guarded gs (body_of c.get-step-in-Issue.result.now)) (guarded gs (body_of c.args.body.now)) step c.loop-step.invariant.0, omega (arith, less, c.loop-step.invariant.1))

pub loop-step-preserved : goal.loop-step-preserved
loop-step-preserved t c =
    let gs = c.args.guards.now
    in let step : followed_by gs c.loop-step.step.now (guarded gs (body_of c.get-step-in-Release.result.now)) ≡ guarded gs (body_of c.loop-step.step.now) = search (rules, the_lemmas)
    in let less : size-Step c.get-step-in-Release.result.now ≤ size-Step c.loop-step.step.now = search (rules, the_lemmas)
    in (put gs (λ step. step.now) c.loop-step.before.items c.push-in-Release.new.self.items c.loop-step.step c.in_ok-push-in-Release.ensures.items (guarded gs (body_of c.loop-step.step.now)) (guarded gs (body_of c.get-step-in-Release.result.now)) (guarded gs (body_of c.args.body.now)) step c.loop-step.invariant.0, omega (arith, less, c.loop-step.invariant.1))
