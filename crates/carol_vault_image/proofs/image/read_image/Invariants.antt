use Rattle.std.proofs.Common.{◌≡◌, ◌-◌, ◌≤◌, ◌++◌, length, drop}
use Rattle.carol_event.specs.Numbers.{Each, HasNumbers}
use Rattle.carol_vault_image.specs.Records.{records}
use Rattle.carol_vault_image.proofs.image.read_image.Given as goal

abbrev pub invariant-loop-taken : goal.invariant-loop-taken
invariant-loop-taken l = record {
  are : l.bytes ≡ records l.events.items ++ drop l.end l.bytes;
  fit : Each HasNumbers l.events.items;
  end_is : l.end ≡ length (records l.events.items);
  within : l.end ≤ length l.bytes;
}

abbrev pub decreases-loop-taken : goal.decreases-loop-taken
decreases-loop-taken l = length l.bytes - l.end
