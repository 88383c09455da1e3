use Rattle.std.proofs.Common.{sym, ◌∙◌}
use Rattle.carol_grant.proofs.Ways.{goes-way}
use Rattle.carol_grant.proofs.grants.Grants.lacks.Goals as goal

pub entry-requires-clause-way : goal.entry-requires-clause-way
entry-requires-clause-way c =
    goes-way c.self.inside.accords.kinds c.args.cell c.args.up
    (rw (c.self.invariant.shape, ← c.kinds.ensures.kinds) (sym c.goes.ensures ∙ c.if-not-goes.false))
