use Rattle.std.proofs.Common.{take}
use Rattle.carol_formula.specs.Linear.{Linear}
use Rattle.carol_formula.specs.Numbers.{number_at}
use Rattle.carol_formula.specs.Value.{Fits}
use Rattle.carol_elimination.specs.Stage.{Among}
use Rattle.carol_elimination.specs.Entries.{terms_of}
use Rattle.carol_elimination.proofs.choice.first_far.Given as goal

abbrev pub invariant-loop-at : goal.invariant-loop-at
invariant-loop-at l = (r : Linear) → Among r (take l.at (terms_of l.given)) → Fits r (number_at l.values)
