use Rattle.std.proofs.Common.{◌+◌, arith}
use Rattle.carol_names.specs.Bounded.{most_sum}
use Rattle.carol_names.proofs.Worths.{parts-whole, is-sum-bounded}
use Rattle.carol_names.proofs.store_values.+sum_of_variables.Goals as goal

pub plus-requires-clause-one : goal.plus-requires-clause-one
plus-requires-clause-one t c = is-sum-bounded (most_sum + most_sum) _ _ _ (omega arith) c.in_ok-left.ensures

pub plus-requires-clause-other : goal.plus-requires-clause-other
plus-requires-clause-other t c = is-sum-bounded most_sum _ _ _ (omega arith) c.in_ok-right.ensures

pub returns : goal.returns
returns t c = parts-whole c.args.first _ _ c.args.count _ _ _ (omega arith) c.in_ok-left.ensures c.in_ok-right.ensures c.in_ok-sum.ensures
