-- The history that sessions make which go on in turn.
use Rattle.std.specs.Prelude.{◌≡◌, ◌⊎◌, ℕ, zero, suc, ◌+◌, ◌<◌, ◌≤◌, List, ◌∷◌, length}
use Rattle.carol_program.specs.Rules.{Rules}
use Rattle.carol_program.specs.declared.scenes.Scene.{Scene}
use Rattle.carol_event.specs.declared.event.Event.{Event}
use Rattle.carol_history.specs.declared.history.TheConstants.{MOST_EVENTS}
use Rattle.carol_history.specs.Acts.{UnderWay}
use Rattle.carol_history.specs.Forced.{Forced}
use Rattle.carol_house.specs.House.{House, IsOverSame}

-- there may be no more events
abbrev pub IsFull : List Event → Type 0
IsFull past = length past ≡ MOST_EVENTS

-- the session makes the event that it is to go on with
abbrev pub Goes : Rules → Scene → ℕ → List Event → List Event → Type 0
Goes p scene session past new =
    (given : Event) × Forced p scene session given past × (length past < MOST_EVENTS)
    × (new ≡ given ∷ past)

-- it makes none, since it has no command under way or there may be no more events
abbrev pub SitsOut : Scene → ℕ → List Event → List Event → Type 0
SitsOut scene session past new =
    ((UnderWay scene session past → ⊥) ⊎ IsFull past) × (new ≡ past)

-- the session's turn
abbrev pub Turn : Rules → Scene → ℕ → List Event → List Event → Type 0
Turn p scene session past new = Goes p scene session past new ⊎ SitsOut scene session past new

-- a turn of each of the first sessions, of which there are so many
abbrev pub TurnOfEach : Rules → Scene → ℕ → List Event → List Event → Type 0
TurnOfEach p scene zero past new = new ≡ past
TurnOfEach p scene (suc session) past new =
    (before : List Event) × TurnOfEach p scene session past before
    × Turn p scene session before new

-- so many rounds, each a turn of every session
abbrev pub Rounds : Rules → Scene → ℕ → List Event → List Event → Type 0
Rounds p scene zero past new = new ≡ past
Rounds p scene (suc rounds) past new =
    (before : List Event) × Rounds p scene rounds past before
    × TurnOfEach p scene (length scene.sessions) before new

-- no session has a command under way, or there may be no more events
abbrev pub IsOver : Scene → List Event → Type 0
IsOver scene past = ((session : ℕ) → UnderWay scene session past → ⊥) ⊎ IsFull past

-- rounds are made until it is over
pub record Turns (p : Rules) (scene : Scene) (past new : List Event) : Type 0 where
  pub rounds : ℕ
  pub made : Rounds p scene rounds past new
  pub over : IsOver scene new

-- the same program in the same scene, and room that is left but for that of the events since
pub record Continues (old new : House) : Type 0 where
  pub over : IsOverSame old new
  pub room : old.spare + length old.history ≤ new.spare + length new.history
