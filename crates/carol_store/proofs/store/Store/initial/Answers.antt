use Rattle.std.proofs.Common.{arith}
use Rattle.carol_store.proofs.Cells.{length-IsStore}
use Rattle.carol_store.proofs.store.Store.initial.Goals as goal

pub from_slice-requires : goal.from_slice-requires
from_slice-requires c = omega (arith, length-IsStore c.args.shape.now c.args.values.now c.requires, c.kinds-kinds.ensures.few)
