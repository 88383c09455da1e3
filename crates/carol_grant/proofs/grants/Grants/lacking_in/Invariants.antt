use Rattle.std.proofs.Common.{◌≡◌, ℕ, ◌<◌, ◌≤◌, false, length, get_or}
use Rattle.carol_store.specs.declared.short_list.TheConstants.{MOST_CELLS}
use Rattle.carol_grant.specs.Kept.{lacks_way}
use Rattle.carol_grant.proofs.grants.Grants.lacking_in.Given as goal

abbrev pub invariant-loop-cell : goal.invariant-loop-cell
invariant-loop-cell l =
    (length l.lacking ≡ MOST_CELLS)
    × ((k : ℕ) → k < l.cell → get_or l.lacking k false ≡ lacks_way l.self.accords k l.up l.guard)
    × ((k : ℕ) → l.cell ≤ k → get_or l.lacking k false ≡ false)
