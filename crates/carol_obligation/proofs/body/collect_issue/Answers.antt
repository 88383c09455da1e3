use Rattle.std.proofs.Common.{length, subst, sym}
use Rattle.carol_formula.specs.Tree.{claim_of}
use Rattle.carol_program.specs.Rules.{rules_in, op_rules}
use Rattle.carol_obligation.specs.Sites.{After}
use Rattle.carol_obligation.specs.Budget.{IsDecidable}
use Rattle.carol_obligation.specs.Collected.{amounts_owed}
use Rattle.carol_obligation.specs.Ready.{point_at}
use Rattle.carol_obligation.proofs.Gathering.{passed_as, passed_then}
use Rattle.carol_obligation.proofs.Sizes.{owed_decidable}
use Rattle.carol_obligation.proofs.body.collect_issue.Goals as goal

pub take-requires-clause-formula : goal.take-requires-clause-formula
take-requires-clause-formula g c =
    let op = op_rules c.args.at.of.op.now in
    let room = c.requires.room in
    subst IsDecidable (sym (c.in_ok-formula.ensures op))
    (owed_decidable (rules_in c.args.at.of.program.now) op c.args.at.standing.now.round (length op.params) (After c.args.parts.now) (claim_of c.args.at.standing.now.known) c.requires.rules room.round room.op.result c.requires.parts room.light room.few)

pub returns : goal.returns
returns g c =
    let holds = g.C.Collector.holds in
    passed_then holds c.args.collector.now c.collect_amounts.new.collector c.take.new.self c.take.result (amounts_owed (rules_in c.args.at.of.program.now) (point_at c.args.at) c.args.number 1 c.args.parts.now) _ c.in_ok-collect_amounts.ensures
    (passed_as holds c.collect_amounts.new.collector c.take.new.self c.take.result _ _ _ (c.in_ok-formula.ensures (op_rules c.args.at.of.op.now)) c.take.ensures)
