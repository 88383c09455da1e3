use Rattle.carol_words_audit.proofs.Audited.{told_found}
use Rattle.carol_words_audit.proofs.audit.find.Goals as goal

pub returns : goal.returns
returns c =
    told_found c.simulation.ensures.uphold c.args.tail.now c.args.accepted c.args.scene c.in_ok-finding.finding c.finding_reply.result c.program-program.ensures.kept c.requires.valid c.in_ok-finding.ensures.tells c.in_ok-finding.ensures.only c.finding_reply.ensures
