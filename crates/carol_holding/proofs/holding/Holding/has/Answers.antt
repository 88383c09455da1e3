use Rattle.std.proofs.Common.{sym, ◌∙◌}
use Rattle.carol_holding.proofs.Rows.{has_at-read}
use Rattle.carol_holding.proofs.holding.Holding.has.Goals as goal

pub returns : goal.returns
returns c = rw (← c.self.view_is)
    (c.has.ensures ∙ sym (has_at-read c.self.inside.rows.items c.args.replica c.args.entry c.index.result.now c.index.ensures (rw (← c.self.view_is) at c.requires)))
