use Rattle.std.proofs.Common.{◌≡◌, ◌++◌, map, drop}
use Rattle.carol_print.specs.Pieces.{text_of}
use Rattle.carol_print.specs.Canonical.{concat}
use Rattle.carol_print.proofs.printed.push_all.Given as goal

abbrev pub invariant-loop-item : goal.invariant-loop-item
invariant-loop-item g l =
    l.out.items ++ text_of (concat (map g.T.Printed.pieces (drop l.item-index l.items)))
    ≡ l.fn.out.items ++ text_of (concat (map g.T.Printed.pieces l.items))
