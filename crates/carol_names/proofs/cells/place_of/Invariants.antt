use Rattle.std.proofs.Common.{◌≡◌, map, drop}
use Rattle.carol_meaning.specs.Declarations.{place_from, place_of}
use Rattle.carol_names.proofs.cells.place_of.Given as goal

abbrev pub invariant-loop-item : goal.invariant-loop-item
invariant-loop-item g l =
    (l.place ≡ l.item-index) ×
    (place_from l.place l.word (map g.T.Declares.ident (drop l.item-index l.items)) ≡ place_of l.word (map g.T.Declares.ident l.items))
