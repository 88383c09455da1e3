use Rattle.std.proofs.Common.{◌≡◌, ℕ, ◌+◌, ◌<◌, ◌≤◌, get_or}
use Rattle.carol_grant.proofs.tally.lower.Given as goal

abbrev pub invariant-loop-cell : goal.invariant-loop-cell
invariant-loop-cell l =
    ((k : ℕ) → k < l.cell → get_or l.counts k 0 + get_or l.gone k 0 ≡ get_or l.initial.counts k 0)
    × ((k : ℕ) → l.cell ≤ k → get_or l.counts k 0 ≡ get_or l.initial.counts k 0)
