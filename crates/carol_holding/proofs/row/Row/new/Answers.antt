use Rattle.carol_holding.proofs.Held.{IsKept-nothing, held_of-nothing}
use Rattle.carol_holding.proofs.row.Row.new.Goals as goal

pub invariant_of-result : goal.invariant_of-result
invariant_of-result c = IsKept-nothing c.new.result.items c.new.ensures.items

pub returns : goal.returns
returns c = held_of-nothing c.new.result.items c.new.ensures.items
