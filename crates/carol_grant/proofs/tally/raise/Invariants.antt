use Rattle.std.proofs.Common.{◌≡◌, ℕ, ◌+◌, ◌<◌, ◌≤◌, false, get_or}
use Rattle.std.specs.Prelude.{if◌then◌else◌}
use Rattle.carol_grant.proofs.tally.raise.Given as goal

abbrev pub invariant-loop-cell : goal.invariant-loop-cell
invariant-loop-cell l =
    ((k : ℕ) → k < l.cell → get_or l.counts k 0 ≡ (if get_or l.lacking k false then 1 else 0) + get_or l.initial.counts k 0)
    × ((k : ℕ) → l.cell ≤ k → get_or l.counts k 0 ≡ get_or l.initial.counts k 0)
