use Rattle.carol_words_laws.proofs.Reported.{runs_are_genuine, steps_are_genuine}
use Rattle.carol_words_laws.proofs.report_laws.Goals as goal

pub returns-clause-steps : goal.returns-clause-steps
returns-clause-steps c = steps_are_genuine

pub returns-clause-runs : goal.returns-clause-runs
returns-clause-runs c = runs_are_genuine
