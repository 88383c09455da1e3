use Rattle.std.proofs.Common.{arith}
use Rattle.carol_store.proofs.Cells.{length-AscendsFrom}
use Rattle.carol_store.proofs.effect.Effect.new.Goals as goal

pub from_slice-requires : goal.from_slice-requires
from_slice-requires c =
    (omega arith, omega (arith, length-AscendsFrom c.args.shape.now 0 c.args.atoms.now c.requires.0 c.requires.1 (omega arith), c.kinds-kinds.ensures.few))
