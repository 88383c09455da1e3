use Rattle.std.proofs.Common.{length, subst, sym}
use Rattle.carol_formula.specs.Tree.{claim_of}
use Rattle.carol_program.specs.Rules.{rules_in, op_rules}
use Rattle.carol_obligation.specs.Sites.{Amount}
use Rattle.carol_obligation.specs.Budget.{IsDecidable}
use Rattle.carol_obligation.proofs.Gathering.{passed_as}
use Rattle.carol_obligation.proofs.Sizes.{owed_decidable}
use Rattle.carol_obligation.proofs.body.collect_bounded.Goals as goal

pub take-requires-clause-formula : goal.take-requires-clause-formula
take-requires-clause-formula g c =
    let op = op_rules c.args.at.of.op.now in
    let room = c.requires.room in
    subst IsDecidable (sym (c.in_ok-formula.ensures op c.args.atom))
    (owed_decidable (rules_in c.args.at.of.program.now) op c.args.at.standing.now.round (length op.params) (Amount c.args.atom c.args.kind c.args.part.now) (claim_of c.args.at.standing.now.known) c.requires.rules room.round room.op.result c.requires.light room.light room.few)

pub returns : goal.returns
returns g c = passed_as g.C.Collector.holds c.args.collector.now c.take.new.self c.take.result _ _ _ (c.in_ok-formula.ensures (op_rules c.args.at.of.op.now) c.args.atom) c.take.ensures
