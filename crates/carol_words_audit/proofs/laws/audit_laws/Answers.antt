use Rattle.carol_words_audit.proofs.Audited.{TailLaws}
use Rattle.carol_words_audit.proofs.Genuine.{found_are_reports, reports_are_found}
use Rattle.carol_words_audit.proofs.laws.audit_laws.Goals as goal

pub returns-clause-found : goal.returns-clause-found
returns-clause-found c =
    let laws : TailLaws = record { read = c.tail_laws.ensures.read; faults = c.tail_laws.ensures.faults; found = c.transcript_laws.ensures.found } in
    reports_are_found c.simulation.ensures.uphold laws c.transcript_laws.ensures.read c.transcript_laws.ensures.single

pub returns-clause-reports : goal.returns-clause-reports
returns-clause-reports c = found_are_reports
