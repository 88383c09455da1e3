use Rattle.std.proofs.Common.{◌+◌, drop}
use Rattle.carol_report.proofs.Playing.{Playing}
use Rattle.carol_report.proofs.script.first_bad.Given as goal

abbrev pub invariant-loop-index : goal.invariant-loop-index
invariant-loop-index l = Playing l.fn.house l.lines (drop l.index l.lines) (l.index + 1) l.house
