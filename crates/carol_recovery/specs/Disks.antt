-- What a disk keeps of a history that a script makes, until it stops.
use Rattle.std.specs.Prelude.{◌≡◌, ◌⊎◌, ℕ, ◌+◌, ◌*◌, ◌<◌, ◌≤◌, List, [], Some, None, length, take, reverse}
use Rattle.carol_disk.specs.Tapes.{Tape, kept_after}
use Rattle.carol_event.specs.declared.event.Event.{Event}
use Rattle.carol_history.specs.declared.script.Statement.{Statement}
use Rattle.carol_history.specs.Scripts.{ComesTo, Gives}
use Rattle.carol_house.specs.House.{House, rules_of}
use Rattle.carol_vault.specs.Steps.{Keeps}
use Rattle.carol_vault.specs.Vaults.{Vaulted}
use Rattle.carol_vault_image.specs.Records.{Shows}

-- the statement gives this event to the house
abbrev pub GivesTo : House → Statement → Event → Type 0
GivesTo house line event = Gives (rules_of house) house.scene line event house.history

-- the event that the statement gives came, and is acknowledged
abbrev pub KeepsGiven : {D : Type 0} → Vaulted D → Statement → Vaulted D → Type 0
KeepsGiven old line new = (event : Event) × GivesTo old.house line event × Keeps old event new

-- the script comes to this history, and each of its statements gives an event
abbrev pub Makes : House → List Statement → List Event → Type 0
Makes house lines past = ComesTo (rules_of house) house.scene 1 lines []
    (record { history = past; bad = None })

-- after so many calls so many events of a history of so many are kept: all, behind their last call;
-- or those whose last call was made before one failed
abbrev pub IsCounted : Tape → ℕ → ℕ → Type 0
IsCounted disk count events =
    ((count ≡ events) × (length disk.past ≡ 5 + 4 * events))
    ⊎ ((count ≤ events) × (1 ≤ disk.failures) × (length disk.past < 9 + 4 * count)
    × ((count ≡ 0) ⊎ (5 + 4 * count ≤ length disk.past)))

-- the disk, which stops at the call with this number, keeps the first events of the history
pub record KeepsFront (stop : ℕ) (past : List Event) (disk : Tape) : Type 0 where
  pub count : ℕ
  pub shows : Shows (kept_after disk.first disk.past) (take count (reverse past))
  pub counted : IsCounted disk count (length past)
  pub limit : disk.stop ≡ Some stop
