-- What holds of all histories that a program can make.
use Rattle.std.specs.Prelude.{◌≡◌, ◌↔◌, ℕ, ◌<◌, ◌≤◌, Bool, true, not, ◌==◌, ◌&&◌, ◌||◌, List, [], ◌∷◌, length, ℤ, unsigned_abs, All}
use Rattle.std.specs.List.{AllByRecursion}
use Rattle.carol_store.specs.declared.shape.CellKind.{CellKind}
use Rattle.carol_store.specs.declared.effect.Atom.{Atom}
use Rattle.carol_store.specs.Actions.{chosen_from}
use Rattle.carol_store.specs.Effects.{IsEffect}
use Rattle.carol_store.specs.Kinds.{CellValue}
use Rattle.carol_store.specs.Stores.{IsStore, StayInWords, apply, apply_all}
use Rattle.carol_program.specs.Rules.{Rules}
use Rattle.carol_program.specs.WellFormed.{StartSmall}
use Rattle.carol_program.specs.declared.scenes.Scene.{Scene}
use Rattle.carol_event.specs.declared.event.Cause.{Cause}
use Rattle.carol_event.specs.declared.event.Cause.TheVariants.{Barred, Behind}
use Rattle.carol_event.specs.declared.event.Event.{Event}
use Rattle.carol_event.specs.declared.event.Event.TheVariants.{Grant, Query, Issue, Release, Return, Refuse, Deliver, Cut, Join}
use Rattle.carol_history.specs.declared.history.TheConstants.{MOST_EVENTS}
use Rattle.carol_history.specs.Acts.{Act, UnderWay, is_live, place}
use Rattle.carol_history.specs.Forced.{Forced}
use Rattle.carol_history.specs.Journals.{journal, is_held, local, global, held_store}
use Rattle.carol_history.specs.Legal.{Legal}
use Rattle.carol_history.specs.Results.{AreDone, outcomes}
use Rattle.carol_history.specs.Runs.{Run}
use Rattle.carol_history.specs.Scripts.{ComesTo, Scripted}
use Rattle.carol_history.specs.declared.script.Statement.{Statement}

-- there is such a session, and such a guard
abbrev pub IsSessionsGuard : Rules → Scene → ℕ → ℕ → Type 0
IsSessionsGuard p scene session guard =
    (session < length scene.sessions) × (guard < length p.guards)

-- the entries of a replica give the same store in the order in which they came there and in the
-- journal's order
abbrev pub OrdersAgree : Type 0
OrdersAgree = (p : Rules) (scene : Scene) (past : List Event) → Run p scene past →
    (replica : ℕ) → local p scene replica past ≡ held_store p scene replica past

-- replicas that hold the same entries have equal stores, and one that holds all of them has the
-- global store
pub record ReplicasAgree (p : Rules) (scene : Scene) (past : List Event) : Type 0 where
  pub same : (one other : ℕ) →
      ((entry : ℕ) → entry < length (journal past) →
      is_held scene.sessions one entry past ≡ is_held scene.sessions other entry past) →
      local p scene one past ≡ local p scene other past
  pub whole : (replica : ℕ) →
      ((entry : ℕ) → entry < length (journal past) →
      is_held scene.sessions replica entry past ≡ true) →
      local p scene replica past ≡ global p past

-- only entries of the journal are held
abbrev pub HeldAreEntries : Scene → List Event → Type 0
HeldAreEntries scene past = (replica entry : ℕ) →
    is_held scene.sessions replica entry past ≡ true → entry < length (journal past)

-- each cell is below 1.4 * 10^14 in absolute value
abbrev pub IsLow : List CellValue → Type 0
IsLow store = All (λ value. unsigned_abs value < 140_000_000_000_000) store

-- whichever entries of the journal are applied, no cell leaves its word on the way, and all are low
-- in the end
pub record StaysLow (p : Rules) (past : List Event) : Type 0 where
  pub words : (chosen : ℕ → Bool) →
      StayInWords p.shape (chosen_from chosen 0 (journal past)) p.initial
  pub low : (chosen : ℕ → Bool) →
      IsLow (apply_all p.shape (chosen_from chosen 0 (journal past)) p.initial)

-- so it is in each history of at most 131,072 events whose entries are effects of the shape
abbrev pub FewStayLow : Type 0
FewStayLow = (p : Rules) (past : List Event) → IsStore p.shape p.initial →
    StartSmall p.shape p.initial → AllByRecursion (IsEffect p.shape) (journal past) →
    length past ≤ MOST_EVENTS → StaysLow p past

-- the numbers of the event name something of the program, the scene and the events before it
abbrev pub NamesWhatIs : Rules → Scene → Event → List Event → Type 0
NamesWhatIs p scene (Grant session guard) past = IsSessionsGuard p scene session guard
NamesWhatIs p scene (Query session guard store) past = IsSessionsGuard p scene session guard
NamesWhatIs p scene (Issue session entry effect) past =
    (session < length scene.sessions) × (entry ≡ length (journal past))
NamesWhatIs p scene (Release session) past = session < length scene.sessions
NamesWhatIs p scene (Return session value) past = session < length scene.sessions
NamesWhatIs p scene (Refuse session (Barred holder guard)) past =
    (session < length scene.sessions) × IsSessionsGuard p scene holder guard
NamesWhatIs p scene (Refuse session (Behind entry)) past =
    (session < length scene.sessions) × (entry < length (journal past))
NamesWhatIs p scene (Deliver source target entry) past =
    (source < scene.replicas) × (target < scene.replicas) × (entry < length (journal past))
NamesWhatIs p scene (Cut a b) past = (a < scene.replicas) × (b < scene.replicas)
NamesWhatIs p scene (Join a b) past = (a < scene.replicas) × (b < scene.replicas)

-- grants that are live are of sessions and guards that there are
abbrev pub LiveAreNamed : Rules → Scene → List Event → Type 0
LiveAreNamed p scene past = (session guard : ℕ) → is_live session guard past ≡ true →
    IsSessionsGuard p scene session guard

-- whose grants are live after each kind of event; the others change none
pub record LiveAfter (past : List Event) : Type 0 where
  pub granted : (s g session guard : ℕ) →
      is_live session guard (Grant s g ∷ past)
      ≡ (((s == session) && (g == guard)) || is_live session guard past)
  pub queried : (s g : ℕ) (store : List CellValue) (session guard : ℕ) →
      is_live session guard (Query s g store ∷ past) ≡ is_live session guard past
  pub issued : (s entry : ℕ) (effect : List Atom) (session guard : ℕ) →
      is_live session guard (Issue s entry effect ∷ past)
      ≡ (not (s == session) && is_live session guard past)
  pub released : (s session guard : ℕ) →
      is_live session guard (Release s ∷ past)
      ≡ (not (s == session) && is_live session guard past)
  pub returned : (s : ℕ) (value : ℤ) (session guard : ℕ) →
      is_live session guard (Return s value ∷ past)
      ≡ (not (s == session) && is_live session guard past)
  pub refused : (s : ℕ) (cause : Cause) (session guard : ℕ) →
      is_live session guard (Refuse s cause ∷ past)
      ≡ (not (s == session) && is_live session guard past)

-- what a session is to go on with may come next
abbrev pub ForcedIsLegal : Rules → Scene → List Event → Type 0
ForcedIsLegal p scene past = (session : ℕ) (event : Event) →
    Forced p scene session event past → Legal p scene event past

-- and it is the only such event
abbrev pub ForcedIsSingle : Rules → Scene → List Event → Type 0
ForcedIsSingle p scene past = (session : ℕ) (one other : Event) →
    Forced p scene session one past → Forced p scene session other past → one ≡ other

-- an issue applies its effect to the global store
abbrev pub GlobalGrows : Rules → List Event → Type 0
GlobalGrows p past = (session entry : ℕ) (effect : List Atom) →
    global p (Issue session entry effect ∷ past) ≡ apply p.shape effect (global p past)

-- a command is done where the session's place is behind it
abbrev pub PlaceIsBehind : Type 0
PlaceIsBehind = (tries : ℕ) (done : List Act) →
    length (outcomes tries done) ≡ (place tries done).command

-- every command is done exactly where no session has one under way
abbrev pub DoneIsNoneUnderWay : Scene → List Event → Type 0
DoneIsNoneUnderWay scene past =
    AreDone scene past ↔ ((session : ℕ) → UnderWay scene session past → ⊥)

-- what a script comes to after a run is a run
abbrev pub ScriptRuns : Rules → Scene → Type 0
ScriptRuns p scene = (number : ℕ) (lines : List Statement) (past : List Event) →
    Run p scene past → (scripted : Scripted) → ComesTo p scene number lines past scripted →
    Run p scene scripted.history

-- and it comes to nothing else
abbrev pub ScriptIsSingle : Rules → Scene → Type 0
ScriptIsSingle p scene = (number : ℕ) (lines : List Statement) (past : List Event) →
    Run p scene past → (one other : Scripted) → ComesTo p scene number lines past one →
    ComesTo p scene number lines past other → one ≡ other
