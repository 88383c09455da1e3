use Rattle.std.proofs.Common.{sym, ◌∙◌}
use Rattle.carol_holding.proofs.Held.{has_marked}
use Rattle.carol_holding.proofs.row.Row.has.Goals as goal

pub returns : goal.returns
returns c = rw (← c.self.view_is)
    (c.is_marked.ensures ∙ rw c.deref.ensures.value (sym (has_marked c.self.inside.front c.self.inside.marks.items c.self.invariant c.args.entry)))
