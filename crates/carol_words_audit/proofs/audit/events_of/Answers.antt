use Rattle.carol_words_audit.proofs.Audited.{told_tail}
use Rattle.carol_words_audit.proofs.audit.events_of.Goals as goal

pub returns-in-Err-clause-told : goal.returns-in-Err-clause-told
returns-in-Err-clause-told c = told_tail c.args.tail.now c.args.line c.in-Err.error c.bad_tail.result c.in-Err.ensures.fault c.bad_tail.ensures
