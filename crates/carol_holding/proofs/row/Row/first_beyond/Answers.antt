use Rattle.carol_holding.proofs.Held.{first_lacked}
use Rattle.carol_holding.proofs.row.Row.first_beyond.Goals as goal

pub returns : goal.returns
returns c = rw (← c.self.view_is, ← c.other.view_is)
    (first_lacked c.self.inside.front c.other.inside.front c.self.inside.marks.items c.other.inside.marks.items c.first_beyond.result
    c.self.invariant c.other.invariant (rw (← c.deref.ensures.value, ← c.deref-2.ensures.value) c.first_beyond.ensures))
