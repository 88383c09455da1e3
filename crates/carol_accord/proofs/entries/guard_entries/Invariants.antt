use Rattle.std.proofs.Common.{length}
use Rattle.carol_formula.specs.Tree.{claim_of}
use Rattle.carol_program.specs.Rules.{rules_in}
use Rattle.carol_accord.proofs.Guarded.{Deciding}
use Rattle.carol_accord.proofs.entries.guard_entries.Given as goal

abbrev pub invariant-loop-step : goal.invariant-loop-step
invariant-loop-step l = Deciding (rules_in l.program) (claim_of l.guard) l.left l.entries

abbrev pub decreases-loop-step : goal.decreases-loop-step
decreases-loop-step l = length l.left
