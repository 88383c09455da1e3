use Rattle.std.proofs.Common.{length}
use Rattle.carol_formula.specs.Numbers.{number_at}
use Rattle.carol_elimination.specs.Entries.{terms_of}
use Rattle.carol_elimination.proofs.Reaching.{IsReached}
use Rattle.carol_elimination.proofs.choice.choose.Given as goal

abbrev pub invariant-loop-number : goal.invariant-loop-number
invariant-loop-number l = IsReached (terms_of l.given) l.variables l.left (number_at l.values)

abbrev pub decreases-loop-number : goal.decreases-loop-number
decreases-loop-number l = length l.left
