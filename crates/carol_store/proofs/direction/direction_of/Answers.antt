use Rattle.std.proofs.Common.{Some, None}
use Rattle.carol_store.specs.declared.shape.CellKind.TheVariants.{Counter}
use Rattle.carol_store.proofs.Cells.{cell_in_shape}
use Rattle.carol_store.proofs.Ways.{direction_at}
use Rattle.carol_store.proofs.direction.direction_of.Goals as goal

pub bounds-kinds-atom : goal.bounds-kinds-atom
bounds-kinds-atom c = rw c.kinds.ensures.kinds (cell_in_shape c.args.shape.now c.args.atom.cell c.args.atom.value c.requires)

pub returns-in-Some : goal.returns-in-Some
returns-in-Some c = direction_at c.args.shape.now c.kinds.result.now c.args.atom Counter (Some c.in-Some.up) c.requires c.kinds.ensures.kinds c.in-Some.ensures

pub returns-in-None : goal.returns-in-None
returns-in-None c = direction_at c.args.shape.now c.kinds.result.now c.args.atom Counter None c.requires c.kinds.ensures.kinds c.in-None.ensures
