use Rattle.std.proofs.Common.{true, false}
use Rattle.carol_grant.proofs.tally.Tally.add.Goals as goal

pub raise-requires-clause-room : goal.raise-requires-clause-room
raise-requires-clause-room c = λ cell. c.requires.room cell true

pub raise-requires-2-clause-room : goal.raise-requires-2-clause-room
raise-requires-2-clause-room c = λ cell. c.requires.room cell false
