use Rattle.std.proofs.Common.{◌≡◌, ◌-◌, ◌++◌}
use Rattle.std.specs.Prelude.{flat_map}
use Rattle.std.specs.List.{range_with_len}
use Rattle.carol_picture.specs.Frame.{lane, lanes}
use Rattle.carol_picture.proofs.frame.push_lanes.Given as goal

abbrev pub invariant-loop-replica : goal.invariant-loop-replica
invariant-loop-replica l =
    l.out.items ++ flat_map (lane l.plans l.bottom) (range_with_len l.replica (l.replicas - l.replica)) ≡ l.fn.out.items ++ lanes l.plans l.replicas l.bottom
