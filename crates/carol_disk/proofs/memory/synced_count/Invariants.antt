use Rattle.std.proofs.Common.{◌≡◌, ◌≤◌, length, reverse, take}
use Rattle.carol_disk.specs.Tapes.{synced_part}
use Rattle.carol_disk.proofs.memory.synced_count.Given as goal

abbrev pub invariant-loop-call : goal.invariant-loop-call
invariant-loop-call l = record {
  front : l.left ≡ take (length l.left) l.calls;
  within : length l.left ≤ length l.calls;
  part : synced_part (reverse l.left) ≡ synced_part (reverse l.calls);
}

abbrev pub decreases-loop-call : goal.decreases-loop-call
decreases-loop-call l = length l.left
