use Rattle.std.proofs.Common.{length}
use Rattle.carol_program.specs.Rules.{op_rules, rules_in}
use Rattle.carol_advise.proofs.Trying.{Trying}
use Rattle.carol_advise.proofs.advised.first_good.Given as goal

abbrev pub invariant-loop-guards : goal.invariant-loop-guards
invariant-loop-guards l = Trying (rules_in l.program) l.number (op_rules l.op) l.list l.rejected l.left

abbrev pub decreases-loop-guards : goal.decreases-loop-guards
decreases-loop-guards l = length l.left
