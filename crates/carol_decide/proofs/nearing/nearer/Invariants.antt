use Rattle.carol_formula.specs.Numbers.{number_at}
use Rattle.carol_formula.specs.Tree.{claim_of}
use Rattle.carol_decide.specs.Answer.{IsSat}
use Rattle.carol_decide.proofs.nearing.nearer.Given as goal

abbrev pub invariant-loop : goal.invariant-loop
invariant-loop l = IsSat (claim_of l.formula) (number_at l.values)
