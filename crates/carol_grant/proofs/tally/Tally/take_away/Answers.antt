use Rattle.std.proofs.Common.{true, false}
use Rattle.carol_grant.proofs.tally.Tally.take_away.Goals as goal

pub lower-requires-clause-covered : goal.lower-requires-clause-covered
lower-requires-clause-covered c = λ cell. c.requires.covered cell true

pub lower-requires-2-clause-covered : goal.lower-requires-2-clause-covered
lower-requires-2-clause-covered c = λ cell. c.requires.covered cell false
