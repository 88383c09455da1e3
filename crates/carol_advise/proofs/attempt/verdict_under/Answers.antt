use Rattle.std.proofs.Common.{length, sym, subst}
use Rattle.carol_program.specs.Rules.{op_rules, rules_in}
use Rattle.carol_program.specs.WellFormed.{IsOpOver}
use Rattle.carol_advise_guards.proofs.Guarding.{stays_over}
use Rattle.carol_advise.proofs.attempt.verdict_under.Goals as goal

pub check_op-requires-clause-op : goal.check_op-requires-clause-op
check_op-requires-clause-op c =
    let p = rules_in c.args.program.now in
    subst (IsOpOver p.shape (length p.guards)) (sym c.in_ok-other.ensures) (stays_over p.shape (length p.guards) (op_rules c.args.op.now) c.args.guards.now c.requires.op c.requires.assigns)
