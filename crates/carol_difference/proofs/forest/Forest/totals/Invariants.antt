use Rattle.std.proofs.Common.{◌≡◌, take}
use Rattle.carol_difference.proofs.Totals.{totals_of}
use Rattle.carol_difference.proofs.forest.Forest.totals.Given as goal

abbrev pub invariant-loop-entry : goal.invariant-loop-entry
invariant-loop-entry l = l.values.items ≡ totals_of l.self.entries.items (take l.entry-index l.self.latest.items)
