-- What becomes of a house whose scene is run.
use Rattle.std.specs.Prelude.{◌≡◌, ◌⊎◌, ℕ, Bool, true, false, List, [], ◌∷◌, ◌++◌}
use Rattle.carol_event.specs.declared.event.Event.{Event}
use Rattle.carol_event.specs.declared.event.Event.TheVariants.{Cut, Join}
use Rattle.carol_history.specs.Results.{AreDone}
use Rattle.carol_house.specs.House.{House, IsOverSame}
use Rattle.carol_house.specs.Moves.{HasCommand, IsFull}
use Rattle.carol_worker.specs.declared.serving.Served.{Served}
use Rattle.carol_worker.specs.declared.serving.Served.TheVariants as served

-- the event cuts or joins replicas
abbrev pub is_link : Event → Bool
is_link (Cut a b) = true
is_link (Join a b) = true
is_link event = false

-- none of the events does
abbrev pub HasNoLink : List Event → Type 0
HasNoLink [] = Unit {0}
HasNoLink (event ∷ past) = (is_link event ≡ false) × HasNoLink past

-- the same program in the same scene, whose history goes on with no cut or join
pub record Continues (old new : House) : Type 0 where
  pub over : IsOverSame old new
  pub later : List Event
  pub history : new.history ≡ later ++ old.history
  pub unlinked : HasNoLink later

-- the session's commands are done, or the history is full
abbrev pub IsThrough : House → ℕ → Served → Type 0
IsThrough house session served.Done = HasCommand house session → ⊥
IsThrough house session served.Full = IsFull house

-- all commands are done, or the history is full
abbrev pub HasEnded : House → Type 0
HasEnded house = AreDone house.scene house.history ⊎ IsFull house
