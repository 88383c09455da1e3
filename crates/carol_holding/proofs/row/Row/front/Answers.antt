use Rattle.std.proofs.Common.{◌∙◌}
use Rattle.carol_holding.proofs.Held.{has_marked}
use Rattle.carol_holding.proofs.row.Row.front.Goals as goal

pub returns-clause-lacks : goal.returns-clause-lacks
returns-clause-lacks c = rw (← c.self.view_is)
    (has_marked c.self.inside.front c.self.inside.marks.items c.self.invariant c.self.inside.front ∙ c.self.invariant.lacks)
