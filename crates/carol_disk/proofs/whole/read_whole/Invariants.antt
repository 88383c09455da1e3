use Rattle.std.proofs.Common.{◌≡◌, ◌≤◌, ◌-◌, ℕ, List, length, take}
use Rattle.carol_disk.specs.Disk.{LeavesOnly}
use Rattle.carol_disk.proofs.whole.read_whole.Given as goal

abbrev pub invariant-loop-count : goal.invariant-loop-count
invariant-loop-count g l = record {
  so_far : l.bytes.items ≡ take (length l.bytes.items) (g.D.Disk.seen l.fn.disk);
  within : length l.bytes.items ≤ length (g.D.Disk.seen l.fn.disk);
  seen : g.D.Disk.seen l.disk ≡ g.D.Disk.seen l.fn.disk;
  kept : g.D.Disk.kept l.disk ≡ g.D.Disk.kept l.fn.disk;
  crash : (c : List ℕ) → g.D.Disk.may_leave l.disk c → g.D.Disk.may_leave l.fn.disk c;
  ticks : g.D.Disk.moment l.disk ≡ g.D.Disk.moment l.fn.disk;
  any_moment : LeavesOnly g.D.Disk.moment g.D.Disk.left_since l.fn.disk l.disk (g.D.Disk.may_leave l.fn.disk);
  counted : g.D.Disk.faults l.fn.disk ≤ g.D.Disk.faults l.disk;
  limit : g.D.Disk.limit l.disk ≡ g.D.Disk.limit l.fn.disk;
}

abbrev pub decreases-loop-count : goal.decreases-loop-count
decreases-loop-count g l = length (g.D.Disk.seen l.fn.disk) - length l.bytes.items
