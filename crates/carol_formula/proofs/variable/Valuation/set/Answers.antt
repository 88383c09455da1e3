use Rattle.carol_formula.proofs.Places.{set_ascends, inserted_ascends}
use Rattle.carol_formula.proofs.variable.Valuation.set.Goals as goal

pub invariant_of-self : goal.invariant_of-self
invariant_of-self c = set_ascends c.args.v c.in-Ok.place _ _ _ c.as_slice.ensures.value c.self.invariant c.in-Ok.ensures.found.1

pub invariant_of-self-in-Continue-1 : goal.invariant_of-self-in-Continue-1
invariant_of-self-in-Continue-1 c = inserted_ascends c.args.v c.in-Err.place _ _ _ _ c.as_slice.ensures.value c.self.invariant c.in-Err.ensures.absent.1 c.in_ok-insert-in-Err.ensures.items
