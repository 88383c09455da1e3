use Rattle.std.proofs.Common.{length, subst, sym}
use Rattle.carol_formula.specs.Tree.{claim_of}
use Rattle.carol_program.specs.Bodies.{Return}
use Rattle.carol_program.specs.Rules.{rules_in, op_rules}
use Rattle.carol_program.specs.WellFormed.{setting_of, variables_in}
use Rattle.carol_obligation.specs.Sites.{Gives}
use Rattle.carol_obligation.specs.Budget.{IsDecidable}
use Rattle.carol_obligation.specs.Ready.{point_at}
use Rattle.carol_obligation.proofs.Light.{light_term}
use Rattle.carol_obligation.proofs.Sizes.{owed_decidable}
use Rattle.carol_obligation.proofs.Steps.{ready_room}
use Rattle.carol_obligation.proofs.body.collect_result.Goals as goal

pub result_owed-requires-clause-value : goal.result_owed-requires-clause-value
result_owed-requires-clause-value g c =
    let p = rules_in c.args.at.of.program.now in
    light_term (variables_in (setting_of p.shape (length p.guards) (op_rules c.args.at.of.op.now)) c.requires.ready.slots) c.args.value.now c.requires.ready.fit

pub take-requires-clause-formula : goal.take-requires-clause-formula
take-requires-clause-formula g c =
    let p = rules_in c.args.at.of.program.now in
    let op = op_rules c.args.at.of.op.now in
    let room = ready_room p (point_at c.args.at) (Return c.args.number c.args.value.now) c.requires.ready in
    let light = light_term (variables_in (setting_of p.shape (length p.guards) op) c.requires.ready.slots) c.args.value.now c.requires.ready.fit in
    subst IsDecidable (sym c.in_ok-formula.ensures)
    (owed_decidable p op c.args.at.standing.now.round (length op.params) (Gives c.args.value.now) (claim_of c.args.at.standing.now.known) c.requires.rules room.round room.op.result light room.light room.few)
