use Rattle.std.proofs.Common.{◌≡◌, take, vec_capacity}
use Rattle.carol_program.specs.declared.limits.TheConstants.{MOST_QUERIES}
use Rattle.carol_reading.proofs.walk.Walk.set.Given as goal

abbrev pub invariant-loop-store : goal.invariant-loop-store
invariant-loop-store l = record {
  stores : l.self-inside.stores.items ≡ take l.store-index l.other.stores;
  capacity : vec_capacity l.self-inside.stores ≡ MOST_QUERIES;
}
