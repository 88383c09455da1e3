use Rattle.carol_worker.proofs.Dealing.{begins, joins}
use Rattle.carol_worker.proofs.roster.Roster.new.Goals as goal

pub ruled-requires-clause-rule : goal.ruled-requires-clause-rule
ruled-requires-clause-rule g c = begins

pub another-pass-requires-clause-rule : goal.another-pass-requires-clause-rule
another-pass-requires-clause-rule g c = joins _ _
