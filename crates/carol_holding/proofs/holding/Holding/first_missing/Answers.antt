use Rattle.carol_holding.proofs.Rows.{first_missing}
use Rattle.carol_holding.proofs.holding.Holding.first_missing.Goals as goal

pub returns : goal.returns
returns c = rw (← c.self.view_is)
    (first_missing c.self.inside.rows.items c.self.inside.spare c.args.from c.args.to c.index.result.now c.index-2.result.now c.first_beyond.result
    c.index.ensures c.index-2.ensures (rw (← c.self.view_is) at c.requires.from) (rw (← c.self.view_is) at c.requires.to) c.first_beyond.ensures)
