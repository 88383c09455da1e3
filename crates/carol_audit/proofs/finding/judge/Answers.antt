use Rattle.carol_audit.proofs.Single.{only_genuine}
use Rattle.carol_audit.proofs.finding.judge.Goals as goal

pub returns-clause-only : goal.returns-clause-only
returns-clause-only c =
    only_genuine c.transcript_laws.ensures.genuine c.args.accepted.program c.args.accepted.accords c.args.scene c.args.tail.now c.find.result
    c.program-program.ensures.kept c.requires.valid c.find.ensures
