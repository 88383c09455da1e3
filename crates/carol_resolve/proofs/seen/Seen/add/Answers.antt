use Rattle.std.proofs.Common.{ap, not, ◌∙◌}
use Rattle.carol_resolve.proofs.Changes.{among-keys, insert-same}
use Rattle.carol_resolve.proofs.seen.Seen.add.Goals as goal

pub returns-clause-fresh : goal.returns-clause-fresh
returns-clause-fresh c = rw (← c.self.view_is) (c.in_ok-fresh.ensures.added ∙ ap not (among-keys c.args.cell c.self.inside.cells.keys))

pub returns-clause-added : goal.returns-clause-added
returns-clause-added c = rw (← c.self.view_is, c.in_ok-fresh.ensures.keys) (insert-same c.args.cell c.self.inside.cells.keys)
