use Rattle.carol_audit.proofs.Fronts.{not_both, one_fault, one_reading}
use Rattle.carol_audit.proofs.tail_law.tail_laws.Goals as goal

pub returns-clause-events : goal.returns-clause-events
returns-clause-events c = one_reading

pub returns-clause-read : goal.returns-clause-read
returns-clause-read c = not_both

pub returns-clause-faults : goal.returns-clause-faults
returns-clause-faults c = one_fault
