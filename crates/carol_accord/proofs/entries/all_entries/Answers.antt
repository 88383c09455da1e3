use Rattle.std.proofs.Common.{◌+◌, sym, subst}
use Rattle.std.proofs.lemmas.Result.{err_from_is_err_and}
use Rattle.carol_program.specs.Rules.{rules_in, guard_claim}
use Rattle.carol_accord.proofs.Guarded.{Progress, next-guard, progress_step, comes_to, fails_reflexive, stays_undecided}
use Rattle.carol_accord.proofs.entries.all_entries.Goals as goal

pub guard_entries-requires-clause-guard : goal.guard_entries-requires-clause-guard
guard_entries-requires-clause-guard c = next-guard (rules_in c.args.program.now) c.requires c.in-Some.guard.now c.in-Some.more.now c.loop-guard.invariant c.in-Some.ensures.cases.0

pub loop-guard-preserved : goal.loop-guard-preserved
loop-guard-preserved c =
    subst (Progress (rules_in c.args.program.now) c.in-Some.more.now (c.loop-guard.number + 1)) (sym c.in_ok-append.ensures)
    (progress_step (rules_in c.args.program.now) c.in-Some.guard.now c.in-Some.more.now c.in_ok-own.own c.loop-guard.invariant c.in-Some.ensures.cases.0 c.in_ok-own.ensures.ok)

pub returns-in_err-own-clause-not_reflexive : goal.returns-in_err-own-clause-not_reflexive
returns-in_err-own-clause-not_reflexive c =
    let p = rules_in c.args.program.now
    in let guard = guard_claim c.in-Some.guard.now
    in let e = err_from_is_err_and c.from_residual-in_err-own.result c.from_residual-in_err-own.ensures.1
    in rw (e.1, e.2) (fails_reflexive p guard c.loop-guard.number _ (comes_to p c.in-Some.guard.now c.in-Some.more.now c.loop-guard.invariant c.in-Some.ensures.cases.0) c.in_err-own.ensures.err)

pub returns-in_err-own-clause-undecided : goal.returns-in_err-own-clause-undecided
returns-in_err-own-clause-undecided c =
    let p = rules_in c.args.program.now
    in let guard = guard_claim c.in-Some.guard.now
    in let e = err_from_is_err_and c.from_residual-in_err-own.result c.from_residual-in_err-own.ensures.1
    in rw (e.1, e.2) (stays_undecided p guard c.loop-guard.number _ (comes_to p c.in-Some.guard.now c.in-Some.more.now c.loop-guard.invariant c.in-Some.ensures.cases.0) c.in_err-own.ensures.err)
