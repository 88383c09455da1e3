use Rattle.std.proofs.Common.{refl}
use Rattle.carol_audit.proofs.first.whole_line.Goals as goal

pub returns-in-Ok : goal.returns-in-Ok
returns-in-Ok c = (c.in-Ok.ensures.found, c.in-Ok.ensures.numbers, refl)
