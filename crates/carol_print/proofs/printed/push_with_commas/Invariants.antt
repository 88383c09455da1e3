use Rattle.std.proofs.Common.{◌≡◌, ◌++◌, map, drop}
use Rattle.carol_print.specs.Pieces.{text_of}
use Rattle.carol_print.specs.Canonical.{after_commas, with_commas}
use Rattle.carol_print.proofs.printed.push_with_commas.Given as goal

abbrev pub invariant-loop-item : goal.invariant-loop-item
invariant-loop-item g l =
    l.out.items ++ text_of (after_commas (map g.T.Printed.pieces (drop l.item-index l.more)))
    ≡ l.fn.out.items ++ text_of (with_commas (map g.T.Printed.pieces l.fn.items))
