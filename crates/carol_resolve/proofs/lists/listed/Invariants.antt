use Rattle.std.proofs.Common.{◌≡◌, ◌++◌, map, drop}
use Rattle.carol_meaning.specs.Stores.{words}
use Rattle.carol_resolve.proofs.lists.listed.Given as goal

abbrev pub invariant-loop-item : goal.invariant-loop-item
invariant-loop-item g l =
    l.names ++ words (map g.T.Declares.ident (drop l.item-index l.items)) ≡ words (map g.T.Declares.ident l.items)
