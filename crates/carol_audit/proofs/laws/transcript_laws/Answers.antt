use Rattle.carol_audit.proofs.OneFinding.{findings_are_single}
use Rattle.carol_audit.proofs.Single.{reports_are_genuine, reports_are_read, reports_are_single}
use Rattle.carol_audit.proofs.laws.transcript_laws.Goals as goal

pub returns-clause-read : goal.returns-clause-read
returns-clause-read c = reports_are_read c.event_numbers.ensures

pub returns-clause-single : goal.returns-clause-single
returns-clause-single c = reports_are_single c.event_numbers.ensures

pub returns-clause-genuine : goal.returns-clause-genuine
returns-clause-genuine c = reports_are_genuine c.event_numbers.ensures

pub returns-clause-found : goal.returns-clause-found
returns-clause-found c = findings_are_single
