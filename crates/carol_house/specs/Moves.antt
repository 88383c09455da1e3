-- What the steps of a house do.
use Rattle.std.specs.Prelude.{◌≡◌, ◌<◌, ℕ, true, false, Bool, if◌then◌else◌, length}
use Rattle.carol_event.specs.declared.event.Event.{Event}
use Rattle.carol_event.specs.declared.event.Event.TheVariants as event
use Rattle.carol_history.specs.declared.history.TheConstants.{MOST_EVENTS}
use Rattle.carol_history.specs.Acts.{UnderWay}
use Rattle.carol_history.specs.Forced.{Forced}
use Rattle.carol_history.specs.Journals.{journal}
use Rattle.carol_history.specs.Legal.{Legal}
use Rattle.carol_history.specs.Links.{is_linked}
use Rattle.carol_history.specs.Scripts.{HoldsAllBelow, IsGossip}
use Rattle.carol_house.specs.declared.moved.Moved.{Moved}
use Rattle.carol_house.specs.declared.moved.Moved.TheVariants as moved
use Rattle.carol_house.specs.declared.moved.Gossip.{Gossip}
use Rattle.carol_house.specs.declared.moved.Gossip.TheVariants as gossip
use Rattle.carol_house.specs.declared.moved.Admitted.{Admitted}
use Rattle.carol_house.specs.declared.moved.Admitted.TheVariants as admitted
use Rattle.carol_house.specs.declared.error.HouseError.{HouseError}
use Rattle.carol_house.specs.declared.error.HouseError.TheVariants as error
use Rattle.carol_house.specs.House.{House, Enters, Rests, rules_of}

-- the number that stands for an event's kind
abbrev pub kind_of : Event → ℕ
kind_of (event.Grant session guard) = 0
kind_of (event.Query session guard store) = 1
kind_of (event.Issue session entry effect) = 2
kind_of (event.Release session) = 3
kind_of (event.Return session value) = 4
kind_of (event.Refuse session cause) = 5
kind_of (event.Deliver source target entry) = 6
kind_of (event.Cut a b) = 7
kind_of (event.Join a b) = 8

abbrev pub IsFull : House → Type 0
IsFull house = length house.history ≡ MOST_EVENTS

abbrev pub HasCommand : House → ℕ → Type 0
HasCommand house session = UnderWay house.scene session house.history

-- the one event came that the session is to go on with, and the answer is its kind; or all commands
-- of the session were done, and nothing changed
abbrev pub Advances : House → ℕ → Moved → House → Type 0
Advances old session (moved.Entered kind) new =
    (given : Event) × Forced (rules_of old) old.scene session given old.history
    × (kind ≡ kind_of given) × (length old.history < MOST_EVENTS) × Enters old given new
Advances old session moved.Finished new = (HasCommand old session → ⊥) × (new ≡ old)

-- the history is full and the session has a command under way; or there was neither room nor memory
abbrev pub FailsToAdvance : House → ℕ → HouseError → House → Type 0
FailsToAdvance old session error.Full new = HasCommand old session × IsFull old × (new ≡ old)
FailsToAdvance old session error.NoMemory new =
    HasCommand old session × (length old.history < MOST_EVENTS) × (old.spare ≡ 0) × Rests old new

-- all that the one replica holds, the other holds
abbrev pub HasNothingNew : House → ℕ → ℕ → Type 0
HasNothingNew house source target =
    HoldsAllBelow house.scene source target (length (journal house.history)) house.history

-- the lowest entry of the journal that the one replica holds and the other lacks is to be
-- delivered; or there is none, or the two are not linked
abbrev pub Offers : House → ℕ → ℕ → Gossip → Type 0
Offers house source target (gossip.Delivered entry) =
    IsGossip house.scene source target (event.Deliver source target entry) house.history
    × (entry < length (journal house.history))
Offers house source target gossip.NothingNew =
    (is_linked source target house.history ≡ true) × HasNothingNew house source target
Offers house source target gossip.CutOff = is_linked source target house.history ≡ false

-- the lowest entry was delivered that the one replica holds and the other lacked; or there is none,
-- or the two are not linked, and nothing changed
abbrev pub Gossips : House → ℕ → ℕ → Gossip → House → Type 0
Gossips old source target (gossip.Delivered entry) new =
    IsGossip old.scene source target (event.Deliver source target entry) old.history
    × (length old.history < MOST_EVENTS) × Enters old (event.Deliver source target entry) new
Gossips old source target gossip.NothingNew new =
    (is_linked source target old.history ≡ true) × HasNothingNew old source target × (new ≡ old)
Gossips old source target gossip.CutOff new =
    (is_linked source target old.history ≡ false) × (new ≡ old)

-- an entry could be delivered
abbrev pub CanGossip : House → ℕ → ℕ → Type 0
CanGossip house source target =
    (is_linked source target house.history ≡ true) × (HasNothingNew house source target → ⊥)

abbrev pub FailsToGossip : House → ℕ → ℕ → HouseError → House → Type 0
FailsToGossip old source target error.Full new =
    CanGossip old source target × IsFull old × (new ≡ old)
FailsToGossip old source target error.NoMemory new =
    CanGossip old source target × (length old.history < MOST_EVENTS) × (old.spare ≡ 0)
    × Rests old new

-- the replicas are joined, or cut off from each other
abbrev pub link_event : ℕ → ℕ → Bool → Event
link_event a b up = if up then event.Join a b else event.Cut a b

abbrev pub Links : House → ℕ → ℕ → Bool → House → Type 0
Links old a b up new =
    (length old.history < MOST_EVENTS) × Enters old (link_event a b up) new

abbrev pub FailsToLink : House → HouseError → House → Type 0
FailsToLink old error.Full new = IsFull old × (new ≡ old)
FailsToLink old error.NoMemory new =
    (length old.history < MOST_EVENTS) × (old.spare ≡ 0) × Rests old new

-- the event may come next, and came; or it may not, and nothing changed
abbrev pub Admits : House → Event → Admitted → House → Type 0
Admits old given admitted.Entered new =
    Legal (rules_of old) old.scene given old.history × (length old.history < MOST_EVENTS)
    × Enters old given new
Admits old given admitted.Illegal new =
    (Legal (rules_of old) old.scene given old.history → ⊥) × (new ≡ old)

abbrev pub FailsToAdmit : House → Event → HouseError → House → Type 0
FailsToAdmit old given error.Full new =
    Legal (rules_of old) old.scene given old.history × IsFull old × (new ≡ old)
FailsToAdmit old given error.NoMemory new =
    Legal (rules_of old) old.scene given old.history × (length old.history < MOST_EVENTS)
    × (old.spare ≡ 0) × Rests old new
