use Rattle.std.specs.Cmp.Rules.{signed_items}
use Rattle.carol_house.proofs.house.admit.is_store.Goals as goal

pub returns : goal.returns
returns c =
    let told = signed_items c.args.one.now c.args.other.now
    in rw (c.eq.ensures, c.values.ensures.values, c.values-2.ensures.values) told
