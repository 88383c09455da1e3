-- What an audit tells of a list of events, the first one first.
use Rattle.std.specs.Prelude.{◌≡◌, ℕ, ◌+◌, Bool, true, false, List, ◌∷◌, ◌++◌, length, reverse, Option, Some, None}
use Rattle.carol_program.specs.Rules.{Rules, rules_in}
use Rattle.carol_program.specs.declared.scenes.Scene.{Scene}
use Rattle.carol_reading.specs.Kept.{Kept}
use Rattle.carol_event.specs.declared.event.Event.{Event}
use Rattle.carol_history.specs.Legal.{Legal}
use Rattle.carol_history.specs.Runs.{Run}
use Rattle.carol_house.specs.House.{House, Enters, rules_of}
use Rattle.carol_audit.specs.declared.ruling.Ruling.{Ruling}
use Rattle.carol_audit.specs.declared.ruling.Ruling.TheVariants.{Genuine, FirstFalse}

-- the house is over the program and the scene and has the events, which the program can make
pub record IsGenuine
    (kept : Kept) (scene : Scene) (events : List Event) (house : House) : Type 0 where
  pub kept_is : house.kept ≡ kept
  pub scene_is : house.scene ≡ scene
  pub history : house.history ≡ reverse events
  pub run : Run (rules_in kept.program) scene (reverse events)

-- the event with this number, from 1, is the first that may not come after those before it
pub record IsFirstFalse
    (p : Rules) (scene : Scene) (events : List Event) (number : ℕ) : Type 0 where
  pub before : List Event
  pub event : Event
  pub after : List Event
  pub are : events ≡ before ++ event ∷ after
  pub counted : number ≡ length before + 1
  pub run : Run p scene (reverse before)
  pub illegal : Legal p scene event (reverse before) → ⊥

-- the event might come next and came, or it may not
abbrev pub Comes : House → Event → Bool → House → Type 0
Comes old event true new =
    Legal (rules_of old) old.scene event old.history × Enters old event new
Comes old event false new = Legal (rules_of old) old.scene event old.history → ⊥

-- a house that had no event has these now; or the one with this number is the first that may not
-- come
abbrev pub Finds : House → List Event → Option ℕ → House → Type 0
Finds old events None new = IsGenuine old.kept old.scene events new
Finds old events (Some number) new = IsFirstFalse (rules_of old) old.scene events number

-- what the answer of an audit says
abbrev pub Tells : Kept → Scene → List Event → Ruling → Type 0
Tells kept scene events (Genuine house) = IsGenuine kept scene events house
Tells kept scene events (FirstFalse number) =
    IsFirstFalse (rules_in kept.program) scene events number
