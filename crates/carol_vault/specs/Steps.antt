-- What the steps of a vault do.
use Rattle.std.specs.Prelude.{◌≡◌, ◌<◌, ◌≤◌, ℕ, ◌+◌, ◌*◌, true, false, length, Result, Ok, Err}
use Rattle.carol_event.specs.declared.event.Event.{Event}
use Rattle.carol_history.specs.declared.history.TheConstants.{MOST_EVENTS}
use Rattle.carol_event.specs.declared.event.Event.TheVariants.{Deliver}
use Rattle.carol_history.specs.Forced.{Forced}
use Rattle.carol_history.specs.Links.{is_linked}
use Rattle.carol_history.specs.Scripts.{IsGossip}
use Rattle.carol_house.specs.declared.moved.Gossip.{Gossip}
use Rattle.carol_house.specs.declared.moved.Gossip.TheVariants as gossip
use Rattle.carol_house.specs.declared.moved.Moved.{Moved}
use Rattle.carol_house.specs.declared.moved.Moved.TheVariants as moved
use Rattle.carol_house.specs.House.{House, Enters, Rests, rules_of}
use Rattle.carol_house.specs.Moves.{HasCommand, HasNothingNew, IsFull, kind_of}
use Rattle.carol_vault.specs.declared.error.VaultError.{VaultError}
use Rattle.carol_vault.specs.declared.error.VaultError.TheVariants.{Full, Fault, Closed, NoMemory}
use Rattle.carol_vault.specs.Vaults.{Vaulted}

-- the event came, and is acknowledged
pub record Keeps {D : Type 0} (old : Vaulted D) (event : Event) (new : Vaulted D) : Type 0 where
  pub few : length old.house.history < MOST_EVENTS
  pub enters : Enters old.house event new.house
  pub stays_open : new.closed ≡ false

-- the one event that the session is to go on with came; or all commands of the session were done,
-- and nothing changed
abbrev pub Advances : {D : Type 0} → Vaulted D → ℕ → Moved → Vaulted D → Type 0
Advances old session (moved.Entered kind) new =
    (event : Event)
    × Forced (rules_of old.house) old.house.scene session event old.house.history
    × (kind ≡ kind_of event) × (old.closed ≡ false) × Keeps old event new
Advances old session moved.Finished new =
    (HasCommand old.house session → ⊥) × (old.closed ≡ false) × (new ≡ old)

-- the lowest entry was delivered that the one replica holds and the other lacked; or there is none,
-- or the two are not linked, and nothing changed
abbrev pub Gossips : {D : Type 0} → Vaulted D → ℕ → ℕ → Gossip → Vaulted D → Type 0
Gossips old source target (gossip.Delivered entry) new =
    IsGossip old.house.scene source target (Deliver source target entry)
    old.house.history
    × (old.closed ≡ false) × Keeps old (Deliver source target entry) new
Gossips old source target gossip.NothingNew new =
    (is_linked source target old.house.history ≡ true)
    × HasNothingNew old.house source target × (old.closed ≡ false) × (new ≡ old)
Gossips old source target gossip.CutOff new =
    (is_linked source target old.house.history ≡ false) × (old.closed ≡ false) × (new ≡ old)

-- the event stands in the history and isn't acknowledged, and the vault is closed
pub record Falters {D : Type 0} (old : Vaulted D) (event : Event) (new : Vaulted D) : Type 0 where
  pub few : length old.house.history < MOST_EVENTS
  pub enters : Enters old.house event new.house
  pub closes : new.closed ≡ true

-- disk and history stay
pub record Waits {D : Type 0} (old new : Vaulted D) : Type 0 where
  pub disk : new.disk ≡ old.disk
  pub house : Rests old.house new.house
  pub closed : new.closed ≡ old.closed

-- an event was to come that has this property
abbrev pub HasNext : (Event → Type 0) → Type 0
HasNext IsNext = (event : Event) × IsNext event

-- why none was kept
abbrev pub FailsToKeep : {D : Type 0} →
    (Event → Type 0) → Vaulted D → VaultError → Vaulted D → Type 0
FailsToKeep IsNext old Closed new = (old.closed ≡ true) × (new ≡ old)
FailsToKeep IsNext old Full new =
    (old.closed ≡ false) × HasNext IsNext × IsFull old.house × (new ≡ old)
FailsToKeep IsNext old Fault new =
    (old.closed ≡ false) × ((event : Event) × IsNext event × Falters old event new)
FailsToKeep IsNext old NoMemory new =
    (old.closed ≡ false) × HasNext IsNext × (length old.house.history < MOST_EVENTS)
    × Waits old new

-- why there was no room for an event that was to come
abbrev pub FailsToPrepare : House → VaultError → House → Type 0
FailsToPrepare old Full new = IsFull old × (new ≡ old)
FailsToPrepare old NoMemory new = (length old.history < MOST_EVENTS) × Rests old new
FailsToPrepare old error new = ⊥

-- the clock goes on by four calls for each event that came, and by fewer where one failed
abbrev pub KeepsTime : {T E : Type 0} → ℕ → ℕ → House → House → Result T E → Type 0
KeepsTime before after old new (Ok done) =
    after + 4 * length old.history ≡ before + 4 * length new.history
KeepsTime before after old new (Err error) = (before ≤ after) × (after < before + 4)
