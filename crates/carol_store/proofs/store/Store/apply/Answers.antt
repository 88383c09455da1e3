use Rattle.std.proofs.Common.{◌<◌, length}
use Rattle.carol_store.proofs.Atoms.{Leads-next}
use Rattle.carol_store.proofs.store.Store.apply.Goals as goal

pub loop-atom-preserved : goal.loop-atom-preserved
loop-atom-preserved c =
    let inside : c.loop-atom.atom-index < length c.args.effect.now = rw c.atoms-atom-items.ensures.atoms at c.loop-atom-test.true
    in rw (c.change.ensures, c.atoms-atom-items.ensures.atoms)
    (Leads-next c.args.shape.now c.args.effect.now c.args.self.now c.loop-atom.atom-index _ c.loop-atom.self inside c.loop-atom.invariant)
