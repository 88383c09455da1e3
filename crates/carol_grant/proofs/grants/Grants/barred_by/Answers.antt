use Rattle.std.proofs.Common.{◌≡◌, true, Some, refl, sym, ◌∙◌}
use Rattle.std.specs.Prelude.{slice_get}
use Rattle.carol_store.specs.Directions.{directions}
use Rattle.carol_program.proofs.Directions.{directions_are_ways}
use Rattle.carol_grant.specs.Kept.{IsRow, lives}
use Rattle.carol_grant.specs.Tallies.{agrees}
use Rattle.carol_grant.proofs.Bars.{agrees-free}
use Rattle.carol_grant.proofs.Kept.{lives-at, row_read}
use Rattle.carol_grant.proofs.Lists.{AllByRecursion-at}
use Rattle.carol_grant.proofs.Ways.{AreCells-directions}
use Rattle.carol_grant.proofs.grants.Grants.barred_by.Goals as goal

pub agrees-requires-clause-ways : goal.agrees-requires-clause-ways
agrees-requires-clause-ways c =
    let f = c.self.inside
    in rw (c.as_slice-ways.ensures.items, c.directions-directions.ensures) (AreCells-directions f.shape c.args.effect.now c.self.invariant.few_cells)

pub returns-then-agrees : goal.returns-then-agrees
returns-then-agrees c =
    let f = c.self.inside
    in let row = c.index.result.now
    in let at : slice_get f.rows.items c.args.session ≡ Some row = row_read f.rows.items c.args.session row (rw (← c.self.view_is) at c.requires.session) c.index.ensures
    in let is : IsRow f.accords row = AllByRecursion-at (IsRow f.accords) f.rows.items c.args.session row c.self.invariant.each at
    in let ways = directions f.accords.kinds c.args.effect.now
    in let same : agrees row.tally f.total ways ≡ true =
    rw (c.self.invariant.shape, ← c.directions-directions.ensures, ← c.as_slice-ways.ensures.items) (sym c.agrees.ensures ∙ c.if-agrees.true)
    in rw (← c.self.view_is) (λ s g apart granted.
    agrees-free f.accords (lives f.rows.items) c.args.session s g row.live row.tally f.total ways (lives-at f.rows.items c.args.session row at) apart is.counts c.self.invariant.counts (directions_are_ways f.accords.kinds c.args.effect.now) same granted)

pub first_bar-requires-clause-ways : goal.first_bar-requires-clause-ways
first_bar-requires-clause-ways c =
    let f = c.self.inside
    in rw (← c.self.view_is, c.as_slice-ways.ensures.items, c.directions-directions.ensures, c.self.invariant.shape) refl

pub first_bar-requires-clause-cells : goal.first_bar-requires-clause-cells
first_bar-requires-clause-cells c =
    let f = c.self.inside
    in rw (c.as_slice-ways.ensures.items, c.directions-directions.ensures) (AreCells-directions f.shape c.args.effect.now c.self.invariant.few_cells)
