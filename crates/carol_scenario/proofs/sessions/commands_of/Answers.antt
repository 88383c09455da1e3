use Rattle.std.proofs.Common.{length}
use Rattle.std.proofs.lemmas.Result.{err_from_is_err_and}
use Rattle.carol_program.specs.Rules.{rules_in}
use Rattle.carol_scenario.proofs.Commands.{commands_refused}
use Rattle.carol_scenario.proofs.sessions.commands_of.Goals as goal

pub returns-in_err-add_command-clause-wrong : goal.returns-in_err-add_command-clause-wrong
returns-in_err-add_command-clause-wrong c =
    let p = err_from_is_err_and c.from_residual.result c.from_residual.ensures.1 in
    rw (p.1, p.2) (
    commands_refused (rules_in c.args.program.now) c.args.program.now.names c.args.session c.args.earlier (length c.loop-declaration.commands) c.args.declarations.now
    c.loop-declaration.declaration-index c.declaration-item.result _ _ c.loop-declaration-test.true c.declaration-item.is c.loop-declaration.invariant.faults c.in_err-add_command.ensures.wrong
    )
