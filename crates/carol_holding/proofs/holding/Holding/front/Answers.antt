use Rattle.std.proofs.Common.{◌∙◌, arith}
use Rattle.carol_holding.proofs.Held.{has_below}
use Rattle.carol_holding.proofs.Rows.{has_at-read}
use Rattle.carol_holding.proofs.holding.Holding.front.Goals as goal

pub returns-clause-below : goal.returns-clause-below
returns-clause-below c = λ i h. rw (← c.self.view_is)
    (has_at-read c.self.inside.rows.items c.args.replica i c.index.result.now c.index.ensures (rw (← c.self.view_is) at c.requires)
    ∙ has_below c.index.result.now.held i (omega (arith, c.front.ensures.value)))

pub returns-clause-lacks : goal.returns-clause-lacks
returns-clause-lacks c = rw (← c.self.view_is)
    (has_at-read c.self.inside.rows.items c.args.replica c.front.result c.index.result.now c.index.ensures (rw (← c.self.view_is) at c.requires)
    ∙ c.front.ensures.lacks)
