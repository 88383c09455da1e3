use Rattle.carol_reply.proofs.Agreeing.{reply_of}
use Rattle.carol_words_audit.specs.Audit.{audit_meaning}
use Rattle.carol_words_audit.proofs.Audited.{TailLaws, audits}
use Rattle.carol_words_audit.proofs.audit.audit_bytes.Goals as goal

pub returns : goal.returns
returns g c =
    let laws : TailLaws = record { read = c.tail_laws.ensures.read; faults = c.tail_laws.ensures.faults; found = c.transcript_laws.ensures.found } in
    reply_of audit_meaning c.args.bytes.now c.judged.result c.ended.result (audits c.one_outcome.ensures laws) c.judged.ensures c.ended.ensures
