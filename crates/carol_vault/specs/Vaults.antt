-- A history and the disk that keeps it.
use Rattle.std.specs.Prelude.{◌≡◌, ◌≤◌, ℕ, ◌-◌, ◌+◌, Bool, List, length, take, drop, reverse, if◌then◌else◌}
use Rattle.carol_event.specs.declared.event.Event.{Event}
use Rattle.carol_house.specs.House.{House}
use Rattle.carol_disk.specs.Disk.{Only}
use Rattle.carol_disk.specs.Gates.{IsShut}
use Rattle.carol_vault_image.specs.Records.{Shows, records}

-- A vault as a caller sees it: its disk, the house with its history, and whether a call answered
-- Fault.
pub record Vaulted (D : Type 0) : Type 0 where
  pub disk : D
  pub house : House
  pub closed : Bool

-- the events of a house, the first one first
abbrev pub events_of : House → List Event
events_of house = reverse house.history

-- how many of its events are acknowledged: all, or all but the one whose keeping failed
abbrev pub acknowledged : {D : Type 0} → Vaulted D → ℕ
acknowledged v = length v.house.history - (if v.closed then 1 else 0)

-- the file shows a front of the house's history, with so many events at least
pub record Holds (least : ℕ) (house : House) (file : List ℕ) : Type 0 where
  pub count : ℕ
  pub enough : least ≤ count
  pub within : count ≤ length house.history
  pub shows : Shows file (take count (events_of house))

-- whatever a crash leaves shows so many events of the house at least, and what was there at the last
-- sync shows these
pub record IsKept {D : Type 0} (kept : D → List ℕ) (may_leave : D → List ℕ → Type 0)
    (least : ℕ) (disk : D) (house : House) : Type 0 where
  pub crash : (c : List ℕ) → may_leave disk c → Holds least house c
  pub kept_shows : Shows (kept disk) (take least (events_of house))

-- the disk is ready for the next event: its file is the records of all events and a shut gate at
-- this place, and nothing else can come of a crash
pub record IsReady {D : Type 0} (seen kept : D → List ℕ) (may_leave : D → List ℕ → Type 0)
    (disk : D) (house : House) (gate : ℕ) : Type 0 where
  pub front : take gate (seen disk) ≡ records (events_of house)
  pub gate_is : gate ≡ length (records (events_of house))
  pub long : length (seen disk) ≡ gate + 1
  pub shut : IsShut (drop gate (seen disk))
  pub durable : Only (seen disk) (may_leave disk)
  pub kept_is : kept disk ≡ seen disk
