use Rattle.std.proofs.Common.{◌≡◌, ℕ, ◌-◌, ◌<◌, ◌≤◌, true}
use Rattle.carol_holding.specs.declared.row.TheConstants.{MOST_ENTRIES}
use Rattle.carol_holding.specs.Marked.{is_marked}
use Rattle.carol_holding.proofs.marks.first_unmarked.Given as goal

abbrev pub invariant-loop-at : goal.invariant-loop-at
invariant-loop-at l = record {
  marked : (i : ℕ) → l.from ≤ i → i < l.at → is_marked l.words i ≡ true;
  least : l.from ≤ l.at;
  within : l.at ≤ MOST_ENTRIES;
}

abbrev pub decreases-loop-at : goal.decreases-loop-at
decreases-loop-at l = MOST_ENTRIES - l.at
