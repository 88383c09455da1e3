use Rattle.std.proofs.Common.{◌≡◌, ◌≤◌, length, rules}
use Rattle.std.specs.Prelude.{◌^◌, Err}
use Rattle.carol_program.specs.Rules.{rules_in}
use Rattle.carol_advise.specs.declared.answer.AdviseError.TheVariants.{NoMemory}
use Rattle.carol_advise.proofs.Answering.{advice_for, good_there, least_for, many_memory, many_never, reason_for}
use Rattle.carol_advise.proofs.Standing.{over_there}
use Rattle.carol_advise.proofs.advised.advise_in.Goals as goal

pub returns-in_err-list-clause-many : goal.returns-in_err-list-clause-many
returns-in_err-list-clause-many c =
    let few : c.len-guards.result ^ c.slots_of-slots.result ≤ 4096 = search rules in
    let none : c.from_residual.result ≡ Err NoMemory = search rules in
    many_memory c.args.program.now c.args.table.now c.op_at-op.result.now c.args.number c.op_at-op.ensures c.len-guards.result c.slots_of-slots.result c.from_residual.result c.len-guards.ensures c.slots_of-slots.ensures.slots few none

pub first_good-requires-clause-op : goal.first_good-requires-clause-op
first_good-requires-clause-op c = over_there c.args.program.now c.op_at-op.result.now c.args.number c.op_at-op.ensures c.requires.kept.well_formed.rules

pub first_good-requires-clause-good : goal.first_good-requires-clause-good
first_good-requires-clause-good c = good_there c.args.program.now c.args.table.now c.op_at-op.result.now c.args.number c.op_at-op.ensures c.requires.kept.accepted

pub returns-clause-advice : goal.returns-clause-advice
returns-clause-advice c = advice_for c.args.program.now c.args.table.now c.op_at-op.result.now c.args.number c.op_at-op.ensures c.first_good.result c.first_good.ensures.advice

pub returns-clause-least : goal.returns-clause-least
returns-clause-least c = least_for c.args.program.now c.args.table.now c.op_at-op.result.now c.args.number c.op_at-op.ensures c.first_good.result c.first_good.ensures.least

pub returns-clause-reason : goal.returns-clause-reason
returns-clause-reason c = reason_for c.args.program.now c.args.table.now c.op_at-op.result.now c.args.number c.op_at-op.ensures c.first_good.result c.first_good.ensures.reason

pub returns-clause-many : goal.returns-clause-many
returns-clause-many c =
    let few : c.len-guards.result ^ c.slots_of-slots.result ≤ 4096 = search rules in
    many_never c.args.program.now c.args.table.now c.op_at-op.result.now c.args.number c.op_at-op.ensures c.len-guards.result c.slots_of-slots.result c.first_good.result c.len-guards.ensures c.slots_of-slots.ensures.slots few c.first_good.ensures.few
