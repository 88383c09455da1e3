-- What a house comes to by a script.
use Rattle.std.specs.Prelude.{◌≡◌, ℕ, Bool, if◌then◌else◌, List, ◌∷◌, Option, Some, None}
use Rattle.carol_event.specs.declared.event.Event.{Event}
use Rattle.carol_history.specs.declared.script.BadStatement.{BadStatement}
use Rattle.carol_history.specs.declared.script.ScriptCause.{ScriptCause}
use Rattle.carol_history.specs.declared.script.ScriptCause.TheVariants as cause
use Rattle.carol_history.specs.declared.script.Statement.{Statement}
use Rattle.carol_history.specs.declared.script.Statement.TheVariants.{Cut, Join}
use Rattle.carol_history.specs.Scripts.{ComesTo, Fails, Gives}
use Rattle.carol_house.specs.declared.moved.Moved.{Moved}
use Rattle.carol_house.specs.declared.moved.Moved.TheVariants as moved
use Rattle.carol_house.specs.declared.moved.Gossip.{Gossip}
use Rattle.carol_house.specs.declared.moved.Gossip.TheVariants as gossip
use Rattle.carol_house.specs.House.{House, IsOverSame, rules_of}

-- the house has the history that the script comes to after that of old, and this is the statement
-- that ended it, if one did
pub record Plays
    (old : House) (lines : List Statement) (new : House) (bad : Option BadStatement) : Type 0 where
  pub over : IsOverSame old new
  pub script :
      ComesTo (rules_of old) old.scene 1 lines old.history
      (record { history = new.history; bad = bad })

-- the house has the event that the statement gives; or it gives none, for this cause, and the
-- history stays
abbrev pub Makes : House → Statement → Option ScriptCause → House → Type 0
Makes old line None new =
    (given : Event) × Gives (rules_of old) old.scene line given old.history
    × IsOverSame old new × (new.history ≡ given ∷ old.history)
Makes old line (Some cause) new =
    Fails old.scene line cause old.history × IsOverSame old new × (new.history ≡ old.history)

-- why a session made no step, and why nothing was delivered
abbrev pub cause_of_rest : Moved → Option ScriptCause
cause_of_rest (moved.Entered kind) = None
cause_of_rest moved.Finished = Some cause.Finished

abbrev pub cause_of_silence : Gossip → Option ScriptCause
cause_of_silence (gossip.Delivered entry) = None
cause_of_silence gossip.NothingNew = Some cause.NothingNew
cause_of_silence gossip.CutOff = Some cause.CutOff

-- the statement that joins two replicas, or cuts them off from each other
abbrev pub link_of : ℕ → ℕ → Bool → Statement
link_of a b up = if up then Join a b else Cut a b
