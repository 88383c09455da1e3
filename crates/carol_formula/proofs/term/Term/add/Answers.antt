use Rattle.carol_formula.proofs.Sums.{value_at-sum_of}
use Rattle.carol_formula.proofs.Terms.{ok_values, plus_of-one}
use Rattle.carol_formula.proofs.term.Term.add.Goals as goal

pub returns-clause-ok : goal.returns-clause-ok
returns-clause-ok c = rw (← plus_of-one c.args.self.now c.args.other.now) c.plus.ensures.ok

pub returns-clause-too_wide : goal.returns-clause-too_wide
returns-clause-too_wide c = rw (← plus_of-one c.args.self.now c.args.other.now) c.plus.ensures.too_wide

pub returns-clause-value : goal.returns-clause-value
returns-clause-value c = ok_values _ c.plus.result (returns-clause-ok c) (value_at-sum_of c.args.self.now c.args.other.now)
