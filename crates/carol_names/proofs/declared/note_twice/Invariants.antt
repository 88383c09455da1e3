use Rattle.std.proofs.Common.{◌≡◌, map, drop}
use Rattle.carol_meaning.specs.Faults.{earliest}
use Rattle.carol_meaning.specs.Declarations.{twice_after, twice_in}
use Rattle.carol_names.proofs.declared.note_twice.Given as goal

abbrev pub invariant-loop-item : goal.invariant-loop-item
invariant-loop-item g l =
    earliest l.finder (twice_after l.seen (map g.T.Declares.ident (drop l.item-index l.items))) ≡
    earliest l.fn.finder (twice_in (map g.T.Declares.ident l.items))
