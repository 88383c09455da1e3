-- What is told of the events that come.
use Rattle.std.specs.Prelude.{◌≡◌, ℕ, if◌then◌else◌, List, [], ◌∷◌, ◌++◌, take, drop, reverse, Option}
use Rattle.std.specs.Io.KnownBytes.{Appends}
use Rattle.std.specs.List.{flat_map}
use Rattle.carol_event.specs.declared.event.Event.{Event}
use Rattle.carol_event.specs.Texts.{event_line}
use Rattle.carol_vault.specs.Vaults.{Vaulted}

-- the events that are acknowledged, the latest first
abbrev pub acknowledged_part : {D : Type 0} → Vaulted D → List Event
acknowledged_part v = if v.closed then drop 1 v.house.history else v.house.history

-- the lines of events, the first one first
abbrev pub lines_of : List Event → List ℕ
lines_of events = flat_map event_line events

-- of a history, the latest event first: a sink took the line of the latest event
abbrev pub TellsLatest : List Event → Option (List ℕ) → Option (List ℕ) → Type 0
TellsLatest [] before after = Unit {0}
TellsLatest (event ∷ past) before after = Appends before after (event_line event)

-- or a part of it from the front
abbrev pub TellsLatestPart : List Event → Option (List ℕ) → Option (List ℕ) → Type 0
TellsLatestPart [] before after = Unit {0}
TellsLatestPart (event ∷ past) before after =
    (count : ℕ) × Appends before after (take count (event_line event))

-- histories, the latest event first: these events came behind the older ones, and a sink took their
-- lines and no more
pub record Tells (old new : List Event) (before after : Option (List ℕ)) : Type 0 where
  pub events : List Event
  pub come : new ≡ reverse events ++ old
  pub told : Appends before after (lines_of events)

-- it took their lines, or a part of them from the front
pub record TellsPart (old new : List Event) (before after : Option (List ℕ)) : Type 0 where
  pub events : List Event
  pub come : new ≡ reverse events ++ old
  pub count : ℕ
  pub told : Appends before after (take count (lines_of events))
