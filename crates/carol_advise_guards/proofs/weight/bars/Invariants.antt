use Rattle.std.proofs.Common.{◌≡◌, ◌+◌, ◌<◌, ◌≤◌, ◌*◌, length}
use Rattle.std.specs.List.{AllByRecursion}
use Rattle.carol_advise_guards.specs.Bars.{bars}
use Rattle.carol_advise_guards.proofs.weight.bars.Given as goal

abbrev pub invariant-loop-guard : goal.invariant-loop-guard
invariant-loop-guard l =
    (l.count + bars l.table l.left ≡ bars l.table l.guards) × (l.count + 32 * length l.left ≤ 256) × AllByRecursion (λ g. g < l.table.guards) l.left

abbrev pub decreases-loop-guard : goal.decreases-loop-guard
decreases-loop-guard l = length l.left
