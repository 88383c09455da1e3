use Rattle.std.proofs.Common.{drop}
use Rattle.carol_audit.proofs.Audits.{Auditing}
use Rattle.carol_audit.proofs.ruling.first_false.Given as goal

abbrev pub invariant-loop-index : goal.invariant-loop-index
invariant-loop-index l = Auditing l.fn.house.kept l.fn.house.scene l.events (drop l.index l.events) l.index l.house
