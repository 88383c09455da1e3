use Rattle.std.proofs.Common.{◌≡◌, subst}
use Rattle.std.specs.Prelude.{Some, slice_get}
use Rattle.carol_store.specs.declared.shape.CellKind.{CellKind}
use Rattle.carol_advise_guards.proofs.Bounds.{way_down, way_up}
use Rattle.carol_advise_guards.proofs.weight.noes_of.Goals as goal

pub entry-requires-clause-way : goal.entry-requires-clause-way
entry-requires-clause-way c = way_up c.args.table.now.kinds c.args.cell c.args.kind c.requires.kind

pub entry-requires-in-Counter-clause-way : goal.entry-requires-in-Counter-clause-way
entry-requires-in-Counter-clause-way c =
    way_down c.args.table.now.kinds c.args.cell (subst (λ (k : CellKind). slice_get c.args.table.now.kinds c.args.cell ≡ Some k) c.in-Counter.is c.requires.kind)
