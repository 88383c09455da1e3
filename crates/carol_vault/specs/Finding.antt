-- What is found of a file.
use Rattle.std.specs.Prelude.{◌≡◌, ◌⊎◌, Bool, true, false, ℕ, ◌+◌, ◌<◌, ◌≤◌, List, [], ◌∷◌, length, reverse, take}
use Rattle.carol_program.specs.Rules.{Rules, rules_in}
use Rattle.carol_program.specs.declared.scenes.Scene.{Scene}
use Rattle.carol_reading.specs.Kept.{Kept}
use Rattle.carol_event.specs.declared.event.Event.{Event}
use Rattle.carol_history.specs.declared.history.TheConstants.{MOST_EVENTS}
use Rattle.carol_history.specs.Runs.{Run}
use Rattle.carol_house.specs.House.{House}
use Rattle.carol_audit.specs.declared.ruling.Ruling.{Ruling}
use Rattle.carol_audit.specs.declared.ruling.Ruling.TheVariants as ruling
use Rattle.carol_audit.specs.Rulings.{IsFirstFalse, IsGenuine}
use Rattle.carol_disk.specs.Gates.{IsShut}
use Rattle.carol_vault.specs.declared.found.Found.{Found}
use Rattle.carol_vault.specs.declared.found.Found.TheVariants as found
use Rattle.carol_vault_image.specs.Records.{IsRead, records}

-- A file keeps these events; or it is damaged at this place; or the event with this number, from 1,
-- is the first that may not come.
pub data Finding : Type 0 where
  Sound : (events : List Event) → Finding
  Damaged : (at : ℕ) → Finding
  Illegal : (number : ℕ) → Finding

-- the rest of a file behind its whole records begins with a shut gate, or the file is all but empty
abbrev pub IsClosed : List ℕ → List ℕ → Type 0
IsClosed file end = IsShut end ⊎ (length file ≤ 1)

-- it ends there, or a record begins that isn't whole
abbrev pub IsOpen : List ℕ → Type 0
IsOpen [] = Unit {0}
IsOpen (gate ∷ more) = gate ≡ 1

-- this event is the first that may not come, or the first that there are too many
abbrev pub IsFirstIllegal : Rules → Scene → List Event → ℕ → Type 0
IsFirstIllegal p scene events number =
    (IsFirstFalse p scene events number × (number ≤ MOST_EVENTS))
    ⊎ ((number ≡ MOST_EVENTS + 1) × (MOST_EVENTS < length events)
    × Run p scene (reverse (take MOST_EVENTS events)))

-- the file keeps the events, which are a history that the program can make in the scene
pub record IsSound (p : Rules) (scene : Scene) (file : List ℕ) (events : List Event) : Type 0 where
  pub end : List ℕ
  pub read : IsRead file events end
  pub closed : IsClosed file end
  pub run : Run p scene (reverse events)
  pub few : length events ≤ MOST_EVENTS

-- the whole records end at this place, and no shut gate stands there
pub record IsDamaged (file : List ℕ) (at : ℕ) : Type 0 where
  pub events : List Event
  pub end : List ℕ
  pub read : IsRead file events end
  pub long : 1 < length file
  pub broken : IsOpen end
  pub at_is : at ≡ length (records events)

-- the records end well, and this one's event is the first that may not come
pub record IsIllegal (p : Rules) (scene : Scene) (file : List ℕ) (number : ℕ) : Type 0 where
  pub events : List Event
  pub end : List ℕ
  pub read : IsRead file events end
  pub closed : IsClosed file end
  pub first : IsFirstIllegal p scene events number

abbrev pub Finds : Rules → Scene → List ℕ → Finding → Type 0
Finds p scene file (Sound events) = IsSound p scene file events
Finds p scene file (Damaged at) = IsDamaged file at
Finds p scene file (Illegal number) = IsIllegal p scene file number

-- the file keeps the events of the house, whose records end at this place
pub record Holds
    (kept : Kept) (scene : Scene) (file : List ℕ) (house : House) (place : ℕ) : Type 0 where
  pub events : List Event
  pub sound : IsSound (rules_in kept.program) scene file events
  pub genuine : IsGenuine kept scene events house
  pub place_is : place ≡ length (records events)

-- what a ruling on the first of its events says of a file, if these are all or if there are more
abbrev pub found_of : Ruling → ℕ → Bool → Found
found_of (ruling.FirstFalse number) place all = found.Illegal number
found_of (ruling.Genuine house) place true = found.Sound house place
found_of (ruling.Genuine house) place false = found.Illegal (MOST_EVENTS + 1)

-- what is told of a file is found of it
abbrev pub Tells : Kept → Scene → List ℕ → Found → Type 0
Tells kept scene file (found.Sound house place) = Holds kept scene file house place
Tells kept scene file (found.Damaged at) = IsDamaged file at
Tells kept scene file (found.Illegal number) =
    IsIllegal (rules_in kept.program) scene file number
