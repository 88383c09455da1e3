use Rattle.std.proofs.Common.{◌≡◌}
use lib.Pointwise.{pointwise}
use Rattle.carol_house.proofs.Sames.{atoms_decide, same_atom}
use Rattle.carol_house.proofs.house.admit.is_effect.Goals as goal

pub returns : goal.returns
returns c =
    let told = atoms_decide c.args.one.now c.args.other.now
    in let same : c.eq.result ≡ pointwise same_atom c.as_slice.result.now c.as_slice-2.result.now = c.eq.ensures
    in rw (same, c.as_slice.ensures.items, c.as_slice-2.ensures.items) told
