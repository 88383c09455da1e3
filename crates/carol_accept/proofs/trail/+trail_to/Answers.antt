use Rattle.std.proofs.Common.{◌≡◌, ◌<◌, ◌≤◌, rules, arith, subst, sym, ◌∙◌}
use Rattle.carol_formula.specs.Tree.{claim_of}
use Rattle.carol_program.specs.Bodies.{body_of, Branch}
use Rattle.carol_program.specs.declared.steps.Step.{the_lemmas, size-Step}
use Rattle.std.specs.Prelude.{None}
use Rattle.carol_accept.specs.Fitting.{StandsBehind}
use Rattle.carol_accept.specs.Trails.{trail_to}
use Rattle.carol_accept.proofs.Standing.{stands_first, few_rounds}
use Rattle.carol_accept.proofs.Going.{left_branch}
use Rattle.carol_accept.proofs.trail.+trail_to.Goals as goal

pub close-requires : goal.close-requires
close-requires t c = few_rounds c.loop-step.trail (body_of c.loop-step.step.now) c.loop-step.invariant.here.stands

pub close-requires-in-Release : goal.close-requires-in-Release
close-requires-in-Release t c = few_rounds c.loop-step.trail (body_of c.loop-step.step.now) c.loop-step.invariant.here.stands

pub trail_to-requires : goal.trail_to-requires
trail_to-requires t c =
    let step : body_of c.loop-step.step.now ≡ Branch c.in-Branch.number (claim_of c.in-Branch.test) (body_of c.get.result.now) (body_of c.in-Branch.no) = search (rules, the_lemmas)
    in let less : size-Step c.get.result.now < size-Step c.loop-step.step.now = search (rules, the_lemmas)
    in let smaller : size-Step c.get.result.now < size-Step c.args.body.now = omega (arith, less, c.loop-step.invariant.part)
    in let first = stands_first c.loop-step.trail c.in-Branch.number (claim_of c.in-Branch.test) (body_of c.get.result.now) (body_of c.in-Branch.no) (subst (StandsBehind c.loop-step.trail) step c.loop-step.invariant.here.stands)
    in (search (rules, the_lemmas, smaller), subst (λ x. StandsBehind x (body_of c.get.result.now)) (sym c.copy.ensures) first)

pub loop-step-preserved : goal.loop-step-preserved
loop-step-preserved t c =
    let step : body_of c.loop-step.step.now ≡ Branch c.in-Branch.number (claim_of c.in-Branch.test) (body_of c.get.result.now) (body_of c.get-step-in-Branch.result.now) = search (rules, the_lemmas)
    in let less : size-Step c.get-step-in-Branch.result.now ≤ size-Step c.loop-step.step.now = search (rules, the_lemmas)
    in let none : trail_to c.args.wanted (body_of c.get.result.now) c.loop-step.trail ≡ None = subst (λ x. trail_to c.args.wanted (body_of c.get.result.now) x ≡ None) c.copy.ensures (sym c.trail_to.ensures ∙ c.in_default.is)
    in record {
      here = left_branch c.args.wanted c.number_of.result c.loop-step.trail (trail_to c.args.wanted (body_of c.args.body.now) c.args.trail) (body_of c.loop-step.step.now) c.in-Branch.number (claim_of c.in-Branch.test) (body_of c.get.result.now) (body_of c.get-step-in-Branch.result.now) step c.number_of.ensures c.if-number_of-wanted.false none c.loop-step.invariant.here;
      part = omega (arith, less, c.loop-step.invariant.part);
    }
