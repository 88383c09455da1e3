use Rattle.carol_names.proofs.Counts.{few-cells}
use Rattle.carol_resolve.proofs.Program.{all-called}
use Rattle.carol_resolve.proofs.whole.whole.Goals as goal

pub shape-requires : goal.shape-requires
shape-requires c = rw c.as_slice-cells.ensures (few-cells c.args.program.now.cells c.requires.cells)

pub initial-requires : goal.initial-requires
initial-requires c = rw c.as_slice-cells.ensures (few-cells c.args.program.now.cells c.requires.cells)

pub returns-clause-names : goal.returns-clause-names
returns-clause-names c =
    all-called c.args.program.now _ _ _ c.as_slice-cells.result.now c.as_slice.result.now _ c.new.ensures c.as_slice-cells.ensures c.as_slice.ensures c.in_ok-cell_names.ensures
    c.in_ok-guard_names.ensures c.requires.names
