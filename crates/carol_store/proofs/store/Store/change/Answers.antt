use Rattle.std.proofs.Common.{◌≡◌, ◌<◌, length, slice_index_or, slice_set, FitsSigned, rules, arith, ◌∙◌, pos}
use Rattle.std.specs.Int.{w64}
use Rattle.std.proofs.Math.ListN.{length-set}
use Rattle.std.proofs.lemmas.Int.{to_z-of_z}
use Rattle.carol_store.specs.declared.shape.CellKind.{CellKind}
use Rattle.carol_store.specs.declared.shape.CellKind.TheVariants.{Counter}
use Rattle.carol_store.specs.Kinds.{CellValue, changed}
use Rattle.carol_store.proofs.Cells.{length-IsStore, cell_in_shape, at_cell-set, IsWord-at_cell, refill-same}
use Rattle.carol_store.proofs.store.Store.change.Goals as goal

pub bounds-kinds-index : goal.bounds-kinds-index
bounds-kinds-index c = rw c.kinds.ensures.kinds (cell_in_shape c.args.shape.now c.args.atom.cell c.args.atom.value c.requires.atom)

pub bounds-deref-index : goal.bounds-deref-index
bounds-deref-index c =
    let inside : c.args.atom.cell < length c.args.shape.now = cell_in_shape c.args.shape.now c.args.atom.cell c.args.atom.value c.requires.atom
    in let same : length c.args.self.now ≡ length c.args.shape.now = length-IsStore c.args.shape.now c.args.self.now c.requires.store
    in rw (c.deref.ensures, c.self.view_is) (omega arith)

pub changed-number-requires : goal.changed-number-requires
changed-number-requires c =
    let inside : c.args.atom.cell < length c.args.shape.now = cell_in_shape c.args.shape.now c.args.atom.cell c.args.atom.value c.requires.atom
    in let f : CellKind → CellValue → CellValue = λ kind value. changed kind value c.args.atom.value
    in let number : FitsSigned w64 (slice_index_or c.deref.result.now c.args.atom.cell (pos 0)) = search rules
    in let value : FitsSigned w64 c.args.atom.value = search rules
    in rw (to_z-of_z w64 (slice_index_or c.deref.result.now c.args.atom.cell (pos 0)) number, to_z-of_z w64 c.args.atom.value value, c.deref.ensures, c.self.view_is, c.kinds.ensures.kinds)
    (IsWord-at_cell f c.args.shape.now c.args.atom.cell c.args.self.now Counter (pos 0) c.requires.store inside c.requires.words)

pub bounds-deref_mut-index : goal.bounds-deref_mut-index
bounds-deref_mut-index c =
    let inside : c.args.atom.cell < length c.args.shape.now = cell_in_shape c.args.shape.now c.args.atom.cell c.args.atom.value c.requires.atom
    in let same : length c.args.self.now ≡ length c.args.shape.now = length-IsStore c.args.shape.now c.args.self.now c.requires.store
    in rw (c.deref_mut.ensures.value, c.self.view_is) (omega arith)

pub returns : goal.returns
returns c =
    let cell = c.args.atom.cell
    in let inside : cell < length c.args.shape.now = cell_in_shape c.args.shape.now c.args.atom.cell c.args.atom.value c.requires.atom
    in let f : CellKind → CellValue → CellValue = λ kind value. changed kind value c.args.atom.value
    in let number : FitsSigned w64 (slice_index_or c.deref.result.now cell (pos 0)) = search rules
    in let value : FitsSigned w64 c.args.atom.value = search rules
    in let next : FitsSigned w64 c.changed-number.result = search rules
    in rw (c.deref_mut.ensures.value, to_z-of_z w64 c.changed-number.result next, c.self.view_is)
    (refill-same c.args.self.now (slice_set c.args.self.now cell c.changed-number.result) (length-set c.args.self.now cell c.changed-number.result)
    ∙ rw (c.changed-number.ensures, to_z-of_z w64 (slice_index_or c.deref.result.now cell (pos 0)) number, to_z-of_z w64 c.args.atom.value value, c.deref.ensures, c.self.view_is, c.kinds.ensures.kinds)
    (at_cell-set f c.args.shape.now cell c.args.self.now Counter (pos 0) c.requires.store inside))
