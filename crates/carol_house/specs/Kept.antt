-- What a house keeps at hand of its history.
use Rattle.std.specs.Prelude.{◌≡◌, ℕ, ◌+◌, ◌<◌, ◌≤◌, Bool, true, not, ◌&&◌, List, [], ◌∷◌, length, get_or, Some, slice_get}
use Rattle.std.specs.Option.{is_some}
use Rattle.carol_program.specs.Accords.{Accords}
use Rattle.carol_program.specs.Limits.{most_replicas}
use Rattle.carol_program.specs.Rules.{Rules}
use Rattle.carol_program.specs.Scenes.{IsValidScene}
use Rattle.carol_program.specs.declared.scenes.Scene.{Scene}
use Rattle.carol_reading.specs.Kept.{MayBeKept}
use Rattle.carol_event.specs.declared.event.Event.{Event}
use Rattle.carol_history.specs.declared.history.TheConstants.{MOST_EVENTS}
use Rattle.carol_history.specs.Acts.{Act, acts, is_live}
use Rattle.carol_history.specs.Journals.{journal, is_held, local, global}
use Rattle.carol_history.specs.Legal.{IsSettled}
use Rattle.carol_history.specs.Links.{is_joined}
use Rattle.carol_history.specs.Runs.{Run}
use Rattle.carol_holding.specs.Held.{Holding, holds}
use Rattle.carol_replica.specs.Stored.{Replicas, local_at}
use Rattle.carol_grant.specs.Grants.{Grants, is_granted}
use Rattle.carol_machine.specs.States.{SessionState, IsAt, present_in}
use Rattle.carol_house.specs.declared.tables.Tables.{Tables}
use Rattle.carol_house.specs.House.{House, rules_of}

-- the table says that the two are joined
abbrev pub are_joined : List (List Bool) → ℕ → ℕ → Bool
are_joined joined a b = get_or (get_or joined a []) b true

-- the entry below which all are settled
abbrev pub settled_below : List (List ℕ) → ℕ → ℕ → ℕ
settled_below settled replica guard = get_or (get_or settled replica []) guard 0

-- the machine is that of the session that did this
pub record IsMachineOf
    (scene : Scene) (session : ℕ) (done : List Act) (m : SessionState) : Type 0 where
  pub planned : slice_get scene.sessions session ≡ Some m.plan
  pub tries : m.tries ≡ scene.tries
  pub at : IsAt m done

abbrev pub AreMachines : Scene → List Event → List SessionState → Type 0
AreMachines scene past machines = (session : ℕ) (m : SessionState) →
    slice_get machines session ≡ Some m → IsMachineOf scene session (acts session past) m

abbrev pub AreGrants : List Event → Grants → Type 0
AreGrants past grants = (session guard : ℕ) →
    is_granted grants session guard ≡ is_live session guard past

abbrev pub IsHolding : Scene → List Event → Holding → Type 0
IsHolding scene past holding = (replica entry : ℕ) →
    holds holding replica entry ≡ is_held scene.sessions replica entry past

abbrev pub AreLocals : Rules → Scene → List Event → Replicas → Type 0
AreLocals p scene past replicas = (replica : ℕ) → replica < scene.replicas →
    local_at replicas replica ≡ local p scene replica past

abbrev pub AreJoined : List Event → List (List Bool) → Type 0
AreJoined past joined = (a b : ℕ) → a < most_replicas → b < most_replicas →
    are_joined joined a b ≡ is_joined a b past

-- the entries below are in the journal, and the replica holds each or the guard admits it
abbrev pub AreSettledBelow : Rules → Scene → List Event → ℕ → ℕ → ℕ → Type 0
AreSettledBelow p scene past replica guard below = (below ≤ length (journal past))
    × ((entry : ℕ) → entry < below → IsSettled p scene replica guard entry past)

abbrev pub AreSettled : Rules → Scene → List Event → List (List ℕ) → Type 0
AreSettled p scene past settled = (replica guard : ℕ) →
    replica < scene.replicas → guard < length p.guards →
    AreSettledBelow p scene past replica guard (settled_below settled replica guard)

-- the tables say what the history says: of the sessions, the grants, who holds which entries, the
-- entries, the stores, the links, and up to where all entries are settled
pub record AreTables
    (p : Rules) (accords : Accords) (scene : Scene) (past : List Event) (t : Tables)
    : Type 0 where
  pub machines : AreMachines scene past t.machines.items
  pub machine_each : length t.machines.items ≡ length scene.sessions
  pub grants : AreGrants past t.grants
  pub grants_each : length t.grants.live ≡ length scene.sessions
  pub table : t.grants.accords ≡ accords
  pub holding : IsHolding scene past t.holding
  pub holding_each : length t.holding.replicas ≡ scene.replicas
  pub journal : t.journal.entries ≡ journal past
  pub locals : AreLocals p scene past t.replicas
  pub locals_each : length t.replicas.locals ≡ scene.replicas
  pub global : t.replicas.global ≡ global p past
  pub joined : AreJoined past t.links
  pub settled : AreSettled p scene past t.settled

-- there is room for so many more events in each table, and in a list of this capacity
pub record HasRoom (spare : ℕ) (past : List Event) (t : Tables) (capacity : ℕ) : Type 0 where
  pub events : length past + spare ≤ capacity
  pub holding : spare ≤ t.holding.spare
  pub journal : spare ≤ t.journal.spare

-- the history is one that the program can make in the scene, and the tables say what it says
pub record IsKept (house : House) (t : Tables) (capacity : ℕ) : Type 0 where
  pub may : MayBeKept house.kept.program house.kept.accords
  pub valid : IsValidScene (rules_of house) house.scene
  pub run : Run (rules_of house) house.scene house.history
  pub few : length house.history ≤ MOST_EVENTS
  pub tables : AreTables (rules_of house) house.kept.accords house.scene house.history t
  pub room : HasRoom house.spare house.history t capacity

-- no machine has a command under way
abbrev pub are_done : List SessionState → Bool
are_done [] = true
are_done (m ∷ ms) = not (is_some (present_in m)) && are_done ms
