use Rattle.std.proofs.Common.{◌≡◌, take}
use Rattle.carol_elimination.specs.Entries.{terms_of}
use Rattle.carol_linear.specs.Place.{names_from}
use Rattle.carol_linear.proofs.own_names.Given as goal

abbrev pub invariant-loop-at : goal.invariant-loop-at
invariant-loop-at l = l.names.items ≡ names_from 0 (terms_of (take l.at l.rows))
