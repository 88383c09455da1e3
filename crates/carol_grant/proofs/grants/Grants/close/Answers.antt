use Rattle.std.proofs.Common.{◌≡◌, Some}
use Rattle.std.specs.Prelude.{slice_get}
use Rattle.carol_grant.proofs.Kept.{Closes-set, IsKept-close, row_covered, row_read}
use Rattle.carol_grant.proofs.grants.Grants.close.Goals as goal

pub take_away-requires-clause-covered : goal.take_away-requires-clause-covered
take_away-requires-clause-covered c = λ cell up.
    let f = c.self.inside
    in let at : slice_get f.rows.items c.args.session ≡ Some c.index.result.now = row_read f.rows.items c.args.session c.index.result.now (rw (← c.self.view_is) at c.requires) c.index.ensures
    in row_covered f.shape f.accords f.guards f.rows.items f.total c.args.session c.index.result.now cell up c.self.invariant at

pub invariant_of-self : goal.invariant_of-self
invariant_of-self c =
    let f = c.self.inside
    in let at : slice_get f.rows.items c.args.session ≡ Some c.index.result.now = row_read f.rows.items c.args.session c.index.result.now (rw (← c.self.view_is) at c.requires) c.index.ensures
    in IsKept-close f.shape f.accords f.guards f.rows.items f.total c.args.session c.index.result.now c.new.result c.take_away.new.self c.self.invariant at c.new.ensures c.take_away.ensures.size c.take_away.ensures.fewer

pub returns : goal.returns
returns c =
    let f = c.self.inside
    in let at : slice_get f.rows.items c.args.session ≡ Some c.index.result.now = row_read f.rows.items c.args.session c.index.result.now (rw (← c.self.view_is) at c.requires) c.index.ensures
    in rw (← c.self.view_is) (Closes-set f.accords f.rows.items c.args.session c.index.result.now c.new.result at c.new.ensures)
