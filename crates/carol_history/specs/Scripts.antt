-- The history that a script makes.
use Rattle.std.specs.Prelude.{◌≡◌, ◌⊎◌, ℕ, ◌+◌, ◌<◌, ◌≤◌, true, false, List, [], ◌∷◌, length, Option, Some, None}
use Rattle.carol_program.specs.Rules.{Rules}
use Rattle.carol_program.specs.declared.scenes.Scene.{Scene}
use Rattle.carol_event.specs.declared.event.Event.{Event}
use Rattle.carol_event.specs.declared.event.Event.TheVariants as event
use Rattle.carol_history.specs.declared.script.BadStatement.{BadStatement}
use Rattle.carol_history.specs.declared.script.ScriptCause.{ScriptCause}
use Rattle.carol_history.specs.declared.script.ScriptCause.TheVariants.{NoSuchSession, Finished, NoSuchPair, CutOff, NothingNew}
use Rattle.carol_history.specs.declared.script.Statement.{Statement}
use Rattle.carol_history.specs.declared.script.Statement.TheVariants.{Go, Gossip, Cut, Join}
use Rattle.carol_history.specs.Acts.{UnderWay}
use Rattle.carol_history.specs.Forced.{Forced}
use Rattle.carol_history.specs.Journals.{journal, is_held}
use Rattle.carol_history.specs.Legal.{MayDeliver, MayLink}
use Rattle.carol_history.specs.Links.{is_linked}

-- all entries below this one that the one replica holds, the other holds
abbrev pub HoldsAllBelow : Scene → ℕ → ℕ → ℕ → List Event → Type 0
HoldsAllBelow scene source target entry past = (i : ℕ) → i < entry →
    is_held scene.sessions source i past ≡ true → is_held scene.sessions target i past ≡ true

-- the event brings the lowest entry that the one replica holds and the other lacks
pub record IsGossip
    (scene : Scene) (source target : ℕ) (given : Event) (past : List Event) : Type 0 where
  pub entry : ℕ
  pub is : given ≡ event.Deliver source target entry
  pub may : MayDeliver scene source target entry past
  pub lowest : HoldsAllBelow scene source target entry past

-- the statement gives the event
abbrev pub Gives : Rules → Scene → Statement → Event → List Event → Type 0
Gives p scene (Go session) given past = Forced p scene session given past
Gives p scene (Gossip source target) given past = IsGossip scene source target given past
Gives p scene (Cut a b) given past = (given ≡ event.Cut a b) × MayLink scene a b
Gives p scene (Join a b) given past = (given ≡ event.Join a b) × MayLink scene a b

-- why there is nothing to gossip
abbrev pub FailsToGossip : Scene → ℕ → ℕ → ScriptCause → List Event → Type 0
FailsToGossip scene source target NoSuchPair past = MayLink scene source target → ⊥
FailsToGossip scene source target CutOff past =
    MayLink scene source target × (is_linked source target past ≡ false)
FailsToGossip scene source target NothingNew past =
    MayLink scene source target × (is_linked source target past ≡ true)
    × HoldsAllBelow scene source target (length (journal past)) past
FailsToGossip scene source target cause past = ⊥

-- why the session can't go on
abbrev pub FailsToGo : Scene → ℕ → ScriptCause → List Event → Type 0
FailsToGo scene session NoSuchSession past = length scene.sessions ≤ session
FailsToGo scene session Finished past =
    (session < length scene.sessions) × (UnderWay scene session past → ⊥)
FailsToGo scene session cause past = ⊥

-- the two replicas can't be cut or joined
abbrev pub FailsToLink : Scene → ℕ → ℕ → ScriptCause → Type 0
FailsToLink scene a b NoSuchPair = MayLink scene a b → ⊥
FailsToLink scene a b cause = ⊥

-- the statement gives no event, for this cause
abbrev pub Fails : Scene → Statement → ScriptCause → List Event → Type 0
Fails scene (Go session) cause past = FailsToGo scene session cause past
Fails scene (Gossip source target) cause past = FailsToGossip scene source target cause past
Fails scene (Cut a b) cause past = FailsToLink scene a b cause
Fails scene (Join a b) cause past = FailsToLink scene a b cause

-- what a script comes to: its history, and its first statement that gives no event, which ends it
pub record Scripted : Type 0 where
  pub history : List Event
  pub bad : Option BadStatement

-- the statements, of which the first has this number, come to this after the events before them
abbrev pub ComesTo : Rules → Scene → ℕ → List Statement → List Event → Scripted → Type 0
ComesTo p scene number [] past scripted = scripted ≡ record { history = past; bad = None }
ComesTo p scene number (line ∷ lines) past scripted =
    ((given : Event) × Gives p scene line given past
    × ComesTo p scene (number + 1) lines (given ∷ past) scripted)
    ⊎ ((cause : ScriptCause) × Fails scene line cause past
    × (scripted ≡ record {
      history = past;
      bad = Some (record { number = number; cause = cause });
    }))
