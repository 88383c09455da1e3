use Rattle.std.proofs.Common.{◌≡◌, ℕ, ◌-◌, ◌<◌, ◌≤◌, true}
use Rattle.carol_house.specs.Nexts.{is_settled}
use Rattle.carol_house.proofs.house.next.first_unsettled.Given as goal

abbrev pub invariant-loop-at : goal.invariant-loop-at
invariant-loop-at l =
    (l.start ≤ l.at) × (l.at ≤ l.len)
    × ((entry : ℕ) → l.start ≤ entry → entry < l.at → is_settled l.tables l.accepted.accords l.replica l.guard entry ≡ true)

abbrev pub decreases-loop-at : goal.decreases-loop-at
decreases-loop-at l = l.len - l.at
