use Rattle.carol_complete.proofs.Succeeding.{audits_succeed, checks_succeed, runs_end, runs_succeed, steps_succeed}
use Rattle.carol_complete.proofs.laws.complete_laws.Goals as goal

pub returns-clause-checks : goal.returns-clause-checks
returns-clause-checks c = checks_succeed c.one_outcome.ensures

pub returns-clause-steps : goal.returns-clause-steps
returns-clause-steps c = steps_succeed c.one_outcome.ensures c.history_laws.ensures.one_script

pub returns-clause-audits : goal.returns-clause-audits
returns-clause-audits c = audits_succeed c.one_outcome.ensures c.audit_laws.ensures.found

pub returns-clause-runs : goal.returns-clause-runs
returns-clause-runs c = runs_succeed c.one_outcome.ensures

pub returns-clause-ends : goal.returns-clause-ends
returns-clause-ends c = runs_end c.one_outcome.ensures
