use Rattle.std.proofs.Common.{List, ◌++◌, sym, ◌∙◌, ap, subst}
use Rattle.std.proofs.lemmas.Result.{err_from_is_err_and}
use Rattle.carol_formula.specs.Tree.{claim_of}
use Rattle.carol_program.specs.Rules.{rules_in}
use Rattle.carol_store.specs.declared.direction.Direction.{Direction}
use Rattle.carol_accord.proofs.Guarded.{Deciding, deciding_step, comes_to_step, stops_step}
use Rattle.carol_accord.proofs.Listed.{step-way}
use Rattle.carol_accord.proofs.entries.guard_entries.Goals as goal

pub entry-requires-clause-step : goal.entry-requires-clause-step
entry-requires-clause-step c =
    let d = c.loop-step.invariant
    in step-way c.args.program.now.shape d.earlier c.in-Some.more.now c.in-Some.step.now (d.whole ∙ ap (λ (ds : List Direction). d.earlier ++ ds) c.in-Some.ensures.cases.0)

pub returns-in_err-own-clause-err : goal.returns-in_err-own-clause-err
returns-in_err-own-clause-err c =
    let p = rules_in c.args.program.now
    in let guard = claim_of c.args.guard.now
    in let e = err_from_is_err_and c.from_residual-in_err-own.result c.from_residual-in_err-own.ensures.1
    in rw (e.1, e.2) (stops_step p guard c.args.number c.in-Some.step.now _ (comes_to_step p guard c.in-Some.step.now c.in-Some.more.now c.loop-step.invariant c.in-Some.ensures.cases.0) c.in_err-own.ensures.err)

pub loop-step-preserved : goal.loop-step-preserved
loop-step-preserved c =
    subst (Deciding (rules_in c.args.program.now) (claim_of c.args.guard.now) c.in-Some.more.now) (sym c.in_ok-push.ensures.ok)
    (deciding_step (rules_in c.args.program.now) (claim_of c.args.guard.now) c.in-Some.step.now c.in_ok-own.own c.in-Some.more.now c.loop-step.invariant c.in-Some.ensures.cases.0 c.in_ok-own.ensures.ok)
