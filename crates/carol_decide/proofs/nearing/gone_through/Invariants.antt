use Rattle.carol_formula.specs.Numbers.{number_at}
use Rattle.carol_formula.specs.Tree.{claim_of}
use Rattle.carol_decide.specs.Answer.{IsSat}
use Rattle.carol_decide.proofs.nearing.gone_through.Given as goal

abbrev pub invariant-loop-wish : goal.invariant-loop-wish
invariant-loop-wish l = IsSat (claim_of l.formula) (number_at l.values)
