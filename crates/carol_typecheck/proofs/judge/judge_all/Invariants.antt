use Rattle.std.proofs.Common.{length}
use Rattle.carol_typecheck.proofs.Scanning.{Judging}
use Rattle.carol_typecheck.proofs.judge.judge_all.Given as goal

abbrev pub invariant-loop-first : goal.invariant-loop-first
invariant-loop-first l = Judging l.obligations l.left

abbrev pub decreases-loop-first : goal.decreases-loop-first
decreases-loop-first l = length l.left
