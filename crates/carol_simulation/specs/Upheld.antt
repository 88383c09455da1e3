-- What an accepted program upholds in every history that it can make.
use Rattle.std.specs.Prelude.{◌≡◌, ◌↔◌, ◌≤◌, ◌<◌, ℕ, true, List, [], ◌∷◌, ◌++◌, length, ℤ, Some, slice_get}
use Rattle.std.specs.List.{AllByRecursion}
use Rattle.carol_store.specs.declared.effect.Atom.{Atom}
use Rattle.carol_store.specs.Effects.{IsEffect}
use Rattle.carol_store.specs.Kinds.{CellValue}
use Rattle.carol_store.specs.Stores.{apply}
use Rattle.carol_formula.specs.Claim.{truth}
use Rattle.carol_formula.specs.Value.{set_at}
use Rattle.carol_program.specs.Accords.{Accords}
use Rattle.carol_program.specs.Admitting.{admits}
use Rattle.carol_program.specs.Preserving.{IsRight}
use Rattle.carol_program.specs.Rules.{Rules, OpRules}
use Rattle.carol_program.specs.Scenes.{IsValidScene}
use Rattle.carol_program.specs.Variables.{number_of_args, result_variable}
use Rattle.carol_program.specs.WellFormed.{AreRules}
use Rattle.carol_program.specs.declared.scenes.Command.{Command}
use Rattle.carol_program.specs.declared.scenes.Scene.{Scene}
use Rattle.carol_program.specs.declared.scenes.SessionPlan.{SessionPlan}
use Rattle.carol_reading.specs.Good.{IsAccepted, IsReading}
use Rattle.carol_reading.specs.Marks.{Mark, Asked, Issued, Released, Returned, HasNotReturned}
use Rattle.carol_reading.specs.Rounds.{MeetsInvariant}
use Rattle.carol_event.specs.declared.event.Event.{Event}
use Rattle.carol_event.specs.declared.event.Event.TheVariants.{Return}
use Rattle.carol_history.specs.declared.history.TheConstants.{MOST_EVENTS}
use Rattle.carol_history.specs.Acts.{UnderWay, Next, acts, attempt, is_live, marks}
use Rattle.carol_history.specs.Forced.{Forced}
use Rattle.carol_history.specs.Journals.{journal, local, global}
use Rattle.carol_history.specs.Laws.{IsLow, ReplicasAgree, StaysLow}
use Rattle.carol_history.specs.Legal.{Admits, IsSettled}
use Rattle.carol_history.specs.Runs.{Run}
use Rattle.carol_history.specs.Sequential.{Sequential, StandIn}

-- the value meets the refinement of the operation that returned it
pub record Answers (p : Rules) (scene : Scene) (session : ℕ) (value : ℤ) (past : List Event) : Type 0 where
  pub next : Next p scene session (Returned value) past
  pub meets :
      truth next.op.result (set_at result_variable value (number_of_args next.way.command.args))
      ≡ true

-- each value that was returned does
abbrev pub AllAnswer : Rules → Scene → List Event → Type 0
AllAnswer p scene [] = Unit {0}
AllAnswer p scene (Return session value ∷ past) =
    Answers p scene session value past × AllAnswer p scene past
AllAnswer p scene (event ∷ past) = AllAnswer p scene past

-- a mark that the session may leave next
pub record GoesOn (p : Rules) (scene : Scene) (session : ℕ) (past : List Event) : Type 0 where
  pub mark : Mark
  pub next : Next p scene session mark past

-- what the session leaves next is within bounds: an effect is of the shape with no amount too
-- large, and keeps the invariant; a value meets the refinement of the operation that returns it
abbrev pub StaysWithin :
    (p : Rules) (scene : Scene) (session : ℕ) (past : List Event) (mark : Mark) →
    Next p scene session mark past → Type 0
StaysWithin p scene session past (Issued effect) next =
    IsEffect p.shape effect × MeetsInvariant p (apply p.shape effect (global p past))
StaysWithin p scene session past (Returned value) next =
    truth next.op.result
    (set_at result_variable value (number_of_args next.way.command.args)) ≡ true
StaysWithin p scene session past (Asked guard store) next = Unit {0}
StaysWithin p scene session past Released next = Unit {0}

-- no session meets a fault: one with a command under way goes on, whatever a session goes on with
-- is within bounds, effects are of the shape with no amount too large, results meet their
-- refinements, and cells are low, whichever entries are applied
pub record MeetsNoFault (p : Rules) (scene : Scene) (past : List Event) : Type 0 where
  pub goes_on : (session : ℕ) → UnderWay scene session past → GoesOn p scene session past
  pub within : (session : ℕ) (mark : Mark) (next : Next p scene session mark past) →
      StaysWithin p scene session past mark next
  pub effects : AllByRecursion (IsEffect p.shape) (journal past)
  pub answers : AllAnswer p scene past
  pub low : StaysLow p past
  pub local_low : (replica : ℕ) → IsLow (local p scene replica past)
  pub global_low : IsLow (global p past)

-- each entry that the session's replica lacks is within the guard, where the guard's grant is live
abbrev pub AllSettled : Rules → Scene → ℕ → ℕ → List Event → Type 0
AllSettled p scene replica guard past =
    (entry : ℕ) → entry < length (journal past) → IsSettled p scene replica guard entry past

pub record Upheld (p : Rules) (scene : Scene) (past : List Event) : Type 0 where
  -- live grants: all entries are held or within the guard
  pub granted : (session guard : ℕ) (plan : SessionPlan) →
      slice_get scene.sessions session ≡ Some plan → is_live session guard past ≡ true →
      AllSettled p scene plan.replica guard past
  -- live queries: the guard is true of the store that was taken and the global store
  pub stand : (session : ℕ) → StandIn p session past (global p past)
  pub invariant : MeetsInvariant p (global p past)
  pub sequential : Sequential p scene past
  pub agree : ReplicasAgree p scene past
  pub no_fault : MeetsNoFault p scene past

-- an accepted program in a scene that is valid for it
pub record MayRun (p : Rules) (scene : Scene) : Type 0 where
  pub rules : AreRules p
  pub accepted : IsAccepted p
  pub valid : IsValidScene p scene

-- each history of at most 131,072 events that it can make upholds all this, up to each of its events
abbrev pub RunsUphold : Type 0
RunsUphold = (p : Rules) (scene : Scene) (later past : List Event) → MayRun p scene →
    Run p scene (later ++ past) → length (later ++ past) ≤ MOST_EVENTS → Upheld p scene past

-- the event that the session is to go on with
pub record HasForced (p : Rules) (scene : Scene) (session : ℕ) (past : List Event) : Type 0 where
  pub event : Event
  pub forced : Forced p scene session event past

-- there is one as long as a command is under way, where a right table tells what guards admit
abbrev pub NobodyIsStuck : Type 0
NobodyIsStuck = (p : Rules) (scene : Scene) (table : Accords) (past : List Event) →
    MayRun p scene → IsRight p table → Run p scene past →
    (session : ℕ) → UnderWay scene session past → HasForced p scene session past

-- a right table admits exactly the effects that are within the guard
abbrev pub TableDecides : Type 0
TableDecides = (p : Rules) (table : Accords) (guard : ℕ) (effect : List Atom) →
    IsRight p table → guard < length p.guards →
    (admits table guard effect ≡ true) ↔ Admits p guard effect

-- the command's operation reads what the session's attempt left, which is no return, in rounds as
-- they may be, of which the open one has the global store
pub record HasReading
    (p : Rules) (command : Command) (session : ℕ) (past : List Event) : Type 0 where
  pub op : OpRules
  pub found : slice_get p.ops command.op ≡ Some op
  pub ended : List (List CellValue)
  pub reading :
      IsReading p op command.args (marks (attempt (acts session past))) ended (global p past)
  pub goes_on : HasNotReturned (marks (attempt (acts session past)))

-- so it is with each command under way
abbrev pub AttemptsAreRead : Type 0
AttemptsAreRead = (p : Rules) (scene : Scene) (past : List Event) →
    MayRun p scene → Run p scene past →
    (session : ℕ) (way : UnderWay scene session past) → HasReading p way.command session past
