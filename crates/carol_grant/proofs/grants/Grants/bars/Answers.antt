use Rattle.std.proofs.Common.{◌≤◌, length, ◌∙◌, arith}
use Rattle.carol_store.specs.declared.short_list.TheConstants.{MOST_CELLS}
use Rattle.carol_grant.specs.Kept.{lives}
use Rattle.carol_grant.proofs.Ways.{HasWay-inside, count_lacks}
use Rattle.carol_grant.proofs.grants.Grants.bars.Goals as goal

pub at-requires-clause-cell : goal.at-requires-clause-cell
at-requires-clause-cell c =
    let few : length c.self.inside.accords.kinds ≤ MOST_CELLS = rw c.self.invariant.shape c.self.invariant.few_cells
    in omega (arith, HasWay-inside c.self.inside.accords.kinds c.args.cell c.args.up (rw (← c.self.view_is) at c.requires))

pub returns : goal.returns
returns c =
    let f = c.self.inside
    in let counted = count_lacks f.accords c.args.cell c.args.up (lives f.rows.items) (rw (← c.self.view_is) at c.requires)
    in rw (← c.self.view_is) (c.at.ensures ∙ c.self.invariant.counts c.args.cell c.args.up ∙ counted)
