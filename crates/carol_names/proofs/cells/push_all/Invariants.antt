use Rattle.std.proofs.Common.{◌≡◌, ◌++◌, map, drop}
use Rattle.carol_names.proofs.cells.push_all.Given as goal

abbrev pub invariant-loop-item : goal.invariant-loop-item
invariant-loop-item g l =
    map (λ i. i.now) l.names.items ++ map g.T.Declares.ident (drop l.item-index l.items) ≡
    map (λ i. i.now) l.fn.names.items ++ map g.T.Declares.ident l.items
