-- What a house is to its callers.
use Rattle.std.specs.Prelude.{ℕ, ◌≡◌, ◌≤◌, ◌+◌, ◌<◌, List, ◌∷◌, Option, Some, None, length, drop, reverse, slice_get}
use Rattle.carol_program.specs.Rules.{Rules, rules_in}
use Rattle.carol_program.specs.declared.scenes.Scene.{Scene}
use Rattle.carol_program.specs.declared.scenes.SessionPlan.{SessionPlan}
use Rattle.carol_reading.specs.Kept.{Kept}
use Rattle.carol_event.specs.declared.event.Event.{Event}
use Rattle.carol_history.specs.declared.history.TheConstants.{MOST_EVENTS}
use Rattle.carol_history.specs.Runs.{Run}
use Rattle.carol_simulation.specs.Upheld.{MayRun, Upheld}

-- the accepted program with its accords, the scene, the history, the latest event first, and for how
-- many more events there is room
pub record House : Type 0 where
  pub kept : Kept
  pub scene : Scene
  pub history : List Event
  pub spare : ℕ

-- the house with these events, the latest last
abbrev pub house_of : Kept → Scene → List Event → ℕ → House
house_of kept scene events spare =
    record { kept = kept; scene = scene; history = reverse events; spare = spare }

abbrev pub rules_of : House → Rules
rules_of house = rules_in house.kept.program

-- the same program in the same scene
pub record IsOverSame (old new : House) : Type 0 where
  pub kept : new.kept ≡ old.kept
  pub scene : new.scene ≡ old.scene

-- nothing came of it, but that there may be more room
pub record Rests (old new : House) : Type 0 where
  pub over : IsOverSame old new
  pub history : new.history ≡ old.history
  pub spare : old.spare ≤ new.spare

-- the event was entered, and took the room of one at most
pub record Enters (old : House) (event : Event) (new : House) : Type 0 where
  pub over : IsOverSame old new
  pub history : new.history ≡ event ∷ old.history
  pub spare : old.spare ≤ new.spare + 1

-- the house's history is one that the accepted program can make in the scene, which is valid for it
pub record IsHistory (house : House) : Type 0 where
  pub may : MayRun (rules_of house) house.scene
  pub run : Run (rules_of house) house.scene house.history
  pub few : length house.history ≤ MOST_EVENTS

-- and upholds all that such a program does, up to each of its events
abbrev pub UpholdsAll : House → Type 0
UpholdsAll house =
    (count : ℕ) → Upheld (rules_of house) house.scene (drop count house.history)

-- there is such a session, and it has such a command
abbrev pub HasCommandIn : Option SessionPlan → ℕ → Type 0
HasCommandIn None command = ⊥
HasCommandIn (Some plan) command = command < length plan.commands

abbrev pub HasPlanned : Scene → ℕ → ℕ → Type 0
HasPlanned scene session command = HasCommandIn (slice_get scene.sessions session) command
