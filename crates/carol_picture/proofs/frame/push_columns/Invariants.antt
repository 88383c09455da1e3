use Rattle.std.proofs.Common.{◌≡◌, ◌-◌, ◌++◌, length}
use Rattle.std.specs.Prelude.{flat_map}
use Rattle.std.specs.List.{range_with_len}
use Rattle.carol_picture.specs.Frame.{column, columns}
use Rattle.carol_picture.proofs.frame.push_columns.Given as goal

abbrev pub invariant-loop-session : goal.invariant-loop-session
invariant-loop-session l =
    l.out.items ++ flat_map (column l.plans l.bottom) (range_with_len l.session (length l.plans - l.session)) ≡ l.fn.out.items ++ columns l.plans l.bottom
