-- The one event that a session can go on with.
use Rattle.std.specs.Prelude.{◌≡◌, ℕ, ◌<◌, true, false, List, Option, Some, None}
use Rattle.carol_program.specs.Rules.{Rules}
use Rattle.carol_program.specs.declared.scenes.Scene.{Scene}
use Rattle.carol_event.specs.declared.event.Event.{Event}
use Rattle.carol_event.specs.declared.event.Event.TheVariants.{Deliver}
use Rattle.carol_history.specs.Acts.{Doing, doing}
use Rattle.carol_history.specs.Journals.{is_held}
use Rattle.carol_history.specs.Legal.{Lacks, Legal}
use Rattle.carol_history.specs.Links.{is_linked}

-- the lowest entry that is missing is brought from the lowest linked replica that holds it
pub record IsFetch
    (p : Rules) (scene : Scene) (session source target entry : ℕ) (past : List Event) : Type 0 where
  pub missing : Lacks p scene session entry past
  pub home : target ≡ missing.next.way.plan.replica
  pub from : source < scene.replicas
  pub linked : is_linked source target past ≡ true
  pub held : is_held scene.sessions source entry past ≡ true
  pub lowest : (replica : ℕ) → replica < source → is_linked replica target past ≡ true →
      is_held scene.sessions replica entry past ≡ false

-- it is an act of this session
abbrev pub IsBy : ℕ → Option Doing → Type 0
IsBy session None = ⊥
IsBy session (Some d) = d.actor ≡ session

-- the event is the session's own, or it brings the entry that the session lacks
abbrev pub Forced : Rules → Scene → ℕ → Event → List Event → Type 0
Forced p scene session (Deliver source target entry) past =
    IsFetch p scene session source target entry past
Forced p scene session event past = IsBy session (doing event) × Legal p scene event past
