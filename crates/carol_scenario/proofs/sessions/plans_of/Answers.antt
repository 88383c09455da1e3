use Rattle.std.proofs.Common.{length}
use Rattle.std.proofs.lemmas.Result.{err_from_is_err_and}
use Rattle.carol_program.specs.Rules.{rules_in}
use Rattle.carol_scenario.proofs.Commands.{sessions_refused}
use Rattle.carol_scenario.proofs.sessions.plans_of.Goals as goal

pub returns-in_err-plan-clause-wrong : goal.returns-in_err-plan-clause-wrong
returns-in_err-plan-clause-wrong c =
    let p = err_from_is_err_and c.from_residual.result c.from_residual.ensures.1 in
    rw (p.1, p.2) (
    sessions_refused (rules_in c.args.program.now) c.args.program.now.names c.args.replicas (length c.loop-declaration.plans) c.loop-declaration.earlier c.args.declarations.now
    c.loop-declaration.declaration-index c.declaration-item.result _ _ c.loop-declaration-test.true c.declaration-item.is c.loop-declaration.invariant.faults
    (rw (← c.len-session.ensures) c.in_err-plan.ensures.wrong)
    )
