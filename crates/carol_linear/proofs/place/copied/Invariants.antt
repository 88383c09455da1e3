use Rattle.std.proofs.Common.{◌≡◌, take}
use Rattle.carol_elimination.specs.Entries.{terms_of}
use Rattle.carol_linear.proofs.place.copied.Given as goal

abbrev pub invariant-loop-row : goal.invariant-loop-row
invariant-loop-row l = terms_of l.copies.items ≡ terms_of (take l.row-index l.rows)
