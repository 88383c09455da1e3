use Rattle.std.proofs.Common.{length}
use Rattle.carol_program.specs.Rules.{rules_in}
use Rattle.carol_accord.proofs.Guarded.{Progress}
use Rattle.carol_accord.proofs.entries.all_entries.Given as goal

abbrev pub invariant-loop-guard : goal.invariant-loop-guard
invariant-loop-guard l = Progress (rules_in l.program) l.left l.number l.all

abbrev pub decreases-loop-guard : goal.decreases-loop-guard
decreases-loop-guard l = length l.left
