use Rattle.std.proofs.Common.{drop}
use Rattle.carol_recovery.proofs.Going.{Going}
use Rattle.carol_recovery.proofs.keeping.stopped.Given as goal

abbrev pub invariant-loop-line : goal.invariant-loop-line
invariant-loop-line l = Going l.stop l.house (drop l.line-index l.lines) l.vault
