use Rattle.std.proofs.Common.{◌≡◌, ◌<◌, false, length, get_or, sym, ◌∙◌, Some, arith}
use Rattle.std.specs.Prelude.{slice_get}
use Rattle.carol_grant.specs.Kept.{IsRow}
use Rattle.carol_grant.proofs.Kept.{GrantsOne-set, IsKept-grant, granted-read, one_more, row_read, row_room, total_room}
use Rattle.carol_grant.proofs.Lists.{AllByRecursion-at}
use Rattle.carol_grant.proofs.grants.Grants.grant.Goals as goal

pub add-requires-clause-room : goal.add-requires-clause-room
add-requires-clause-room c = λ cell up.
    let f = c.self.inside
    in let at : slice_get f.rows.items c.args.session ≡ Some c.index.result.now = row_read f.rows.items c.args.session c.index.result.now (rw (← c.self.view_is) at c.requires.session) c.index.ensures
    in omega (arith, row_room f.accords c.index.result.now cell up (AllByRecursion-at (IsRow f.accords) f.rows.items c.args.session c.index.result.now c.self.invariant.each at))

pub add-requires-2-clause-room : goal.add-requires-2-clause-room
add-requires-2-clause-room c = λ cell up.
    let f = c.self.inside
    in omega (arith, total_room f.shape f.accords f.guards f.rows.items f.total cell up c.self.invariant)

pub invariant_of-self : goal.invariant_of-self
invariant_of-self c =
    let f = c.self.inside
    in let row = c.index.result.now
    in let at : slice_get f.rows.items c.args.session ≡ Some row = row_read f.rows.items c.args.session row (rw (← c.self.view_is) at c.requires.session) c.index.ensures
    in let fresh : get_or row.live c.args.guard false ≡ false =
    sym (granted-read f.rows.items c.args.session row c.args.guard at) ∙ (rw (← c.self.view_is) at (sym c.live.ensures ∙ c.if-live.false))
    in let more = one_more f.accords c.args.guard c.lacking-lacking.result in
    let ways = rw (← c.self.view_is) at c.lacking-lacking.ensures.ways
    in IsKept-grant f.shape f.accords f.guards f.rows.items f.total c.args.session c.args.guard row c.add.new.self c.add-2.new.self c.self.invariant at
    (rw (← c.self.view_is) at c.requires.guard) fresh c.add.ensures.size (more row.tally c.add.new.self ways c.add.ensures.more) c.add-2.ensures.size (more f.total c.add-2.new.self ways c.add-2.ensures.more)

pub returns : goal.returns
returns c =
    let f = c.self.inside
    in let row = c.index.result.now
    in let at : slice_get f.rows.items c.args.session ≡ Some row = row_read f.rows.items c.args.session row (rw (← c.self.view_is) at c.requires.session) c.index.ensures
    in let is : IsRow f.accords row = AllByRecursion-at (IsRow f.accords) f.rows.items c.args.session row c.self.invariant.each at
    in let inside : c.args.guard < length row.live = omega (arith, is.wide, c.self.invariant.table, c.self.invariant.few_guards, rw (← c.self.view_is) at c.requires.guard)
    in rw (← c.self.view_is) (GrantsOne-set f.accords f.rows.items c.args.session c.args.guard row c.add.new.self at inside)
