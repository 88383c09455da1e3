-- A house with room for more events.
use Rattle.std.proofs.Common.{◌≡◌, ℕ, List, reverse}
use Rattle.carol_program.specs.declared.scenes.Scene.{Scene}
use Rattle.carol_reading.specs.Kept.{Kept}
use Rattle.carol_event.specs.declared.event.Event.{Event}
use Rattle.carol_holding.specs.Held.{Holding}
use Rattle.carol_replica.specs.Entries.{Journal}
use Rattle.carol_house.specs.declared.tables.Tables.{Tables}
use Rattle.carol_house.specs.House.{house_of}
use Rattle.carol_house.specs.Kept.{HasRoom, IsKept}

-- the same events and tables, with this room
pub kept_room : (accepted : Kept) (scene : Scene) (events more : List Event) (spare wider : ℕ) (t : Tables) (holding : Holding) (journal : Journal) (capacity now : ℕ) → IsKept (house_of accepted scene events spare) t capacity → more ≡ events → holding.replicas ≡ t.holding.replicas → journal.entries ≡ t.journal.entries → HasRoom wider (reverse events) (record t { holding = holding; journal = journal }) now →
    IsKept (house_of accepted scene more wider) (record t { holding = holding; journal = journal }) now
kept_room accepted scene events more spare wider t holding journal capacity now k is same_rows same_entries room = rw is (record {
  may = k.may;
  valid = k.valid;
  run = k.run;
  few = k.few;
  tables = record {
    machines = k.tables.machines;
    machine_each = k.tables.machine_each;
    grants = k.tables.grants;
    grants_each = k.tables.grants_each;
    table = k.tables.table;
    holding = rw same_rows k.tables.holding;
    holding_each = rw same_rows k.tables.holding_each;
    journal = rw same_entries k.tables.journal;
    locals = k.tables.locals;
    locals_each = k.tables.locals_each;
    global = k.tables.global;
    joined = k.tables.joined;
    settled = k.tables.settled;
  };
  room = record { events = room.events; holding = room.holding; journal = room.journal };
})
