-- What a session did in a history, the latest act first, and where this has brought it.
use Rattle.std.specs.Prelude.{◌≡◌, ℕ, ◌+◌, Bool, false, ◌==◌, ◌||◌, if◌then◌else◌, List, [], ◌∷◌, ◌++◌, Option, Some, None, slice_get}
use Rattle.carol_store.specs.Kinds.{CellValue}
use Rattle.carol_program.specs.Rules.{Rules, OpRules}
use Rattle.carol_program.specs.declared.scenes.Command.{Command}
use Rattle.carol_program.specs.declared.scenes.Scene.{Scene}
use Rattle.carol_program.specs.declared.scenes.SessionPlan.{SessionPlan}
use Rattle.carol_reading.specs.Good.{MayLeave}
use Rattle.carol_reading.specs.Marks.{Mark, Asked, Issued, Released, Returned}
use Rattle.carol_event.specs.declared.event.Cause.{Cause}
use Rattle.carol_event.specs.declared.event.Event.{Event}
use Rattle.carol_event.specs.declared.event.Event.TheVariants.{Grant, Query, Issue, Release, Return, Refuse}

-- a session was granted a guard, its operation left a mark, or it was refused
pub data Act : Type 0 where
  Granted : (guard : ℕ) → Act
  Did : (mark : Mark) → Act
  Refused : (cause : Cause) → Act

-- an act of the session with this number
pub record Doing : Type 0 where
  pub actor : ℕ
  pub act : Act

-- whose act the event is, and which; a delivery, a cut and a join are no session's
abbrev pub doing : Event → Option Doing
doing (Grant session guard) = Some (record { actor = session; act = Granted guard })
doing (Query session guard store) =
    Some (record { actor = session; act = Did (Asked guard store) })
doing (Issue session entry effect) = Some (record { actor = session; act = Did (Issued effect) })
doing (Release session) = Some (record { actor = session; act = Did Released })
doing (Return session value) = Some (record { actor = session; act = Did (Returned value) })
doing (Refuse session cause) = Some (record { actor = session; act = Refused cause })
doing event = None

-- the session's acts with one more, if it is the session's
abbrev pub with_act : ℕ → Option Doing → List Act → List Act
with_act session None before = before
with_act session (Some d) before = if d.actor == session then d.act ∷ before else before

-- what the session did
abbrev pub acts : ℕ → List Event → List Act
acts session [] = []
acts session (event ∷ past) = with_act session (doing event) (acts session past)

-- the acts since the last return or refusal
abbrev pub attempt : List Act → List Act
attempt [] = []
attempt (Did (Returned value) ∷ past) = []
attempt (Refused cause ∷ past) = []
attempt (act ∷ past) = act ∷ attempt past

-- the marks among acts, in the order in which they were left
abbrev pub marks : List Act → List Mark
marks [] = []
marks (Did mark ∷ past) = marks past ++ mark ∷ []
marks (act ∷ past) = marks past

-- the guard was granted, and only queries and grants came since
abbrev pub has_grant : ℕ → List Act → Bool
has_grant guard [] = false
has_grant guard (Granted g ∷ past) = (g == guard) || has_grant guard past
has_grant guard (Did (Asked g store) ∷ past) = has_grant guard past
has_grant guard (act ∷ past) = false

-- the session's grant of the guard is live
abbrev pub is_live : ℕ → ℕ → List Event → Bool
is_live session guard past = has_grant guard (acts session past)

-- each query has the property that is live, which means that only queries and grants came since
abbrev pub EachLive : (ℕ → List CellValue → Type 0) → List Act → Type 0
EachLive P [] = Unit {0}
EachLive P (Granted g ∷ past) = EachLive P past
EachLive P (Did (Asked g store) ∷ past) = P g store × EachLive P past
EachLive P (act ∷ past) = Unit {0}

-- the number of the command under way, and how often it was refused
pub record Place : Type 0 where
  pub command : ℕ
  pub refusals : ℕ

-- after a refusal; the one that makes them as many as the tries ends the command
abbrev pub after_refusal : ℕ → Place → Place
after_refusal tries at =
    if at.refusals + 1 == tries then record { command = at.command + 1; refusals = 0 }
    else record { command = at.command; refusals = at.refusals + 1 }

-- where acts bring a session
abbrev pub place : ℕ → List Act → Place
place tries [] = record { command = 0; refusals = 0 }
place tries (Did (Returned value) ∷ past) =
    record { command = (place tries past).command + 1; refusals = 0 }
place tries (Refused cause ∷ past) = after_refusal tries (place tries past)
place tries (act ∷ past) = place tries past

-- the session has a command that is not done
pub record UnderWay (scene : Scene) (session : ℕ) (past : List Event) : Type 0 where
  pub plan : SessionPlan
  pub command : Command
  pub planned : slice_get scene.sessions session ≡ Some plan
  pub present :
      slice_get plan.commands (place scene.tries (acts session past)).command ≡ Some command

-- the session's operation may leave this mark next
pub record Next (p : Rules) (scene : Scene) (session : ℕ) (mark : Mark) (past : List Event) : Type 0 where
  pub way : UnderWay scene session past
  pub op : OpRules
  pub found : slice_get p.ops way.command.op ≡ Some op
  pub reads : MayLeave p op way.command.args (marks (attempt (acts session past))) mark
