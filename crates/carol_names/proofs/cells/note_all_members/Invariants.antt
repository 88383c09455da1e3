use Rattle.std.proofs.Common.{◌≡◌, drop}
use Rattle.std.specs.List.{flat_map}
use Rattle.carol_meaning.specs.Faults.{earliest}
use Rattle.carol_meaning.specs.Cells.{member_faults}
use Rattle.carol_names.proofs.cells.note_all_members.Given as goal

abbrev pub invariant-loop-declaration : goal.invariant-loop-declaration
invariant-loop-declaration l =
    earliest l.finder (flat_map member_faults (drop l.declaration-index l.declarations)) ≡
    earliest l.fn.finder (flat_map member_faults l.declarations)
