-- Histories read in order over one store.
use Rattle.std.specs.Prelude.{List, [], ◌∷◌, ℕ, slice_get}
use Rattle.carol_store.specs.Kinds.{CellValue}
use Rattle.carol_program.specs.Rules.{Rules}
use Rattle.carol_program.specs.declared.scenes.Scene.{Scene}
use Rattle.carol_reading.specs.Marks.{Mark, Issued, Released, Returned}
use Rattle.carol_reading.specs.Rounds.{MeetsInvariant, GuardsIn}
use Rattle.carol_event.specs.declared.event.Event.{Event}
use Rattle.carol_event.specs.declared.event.Event.TheVariants.{Issue, Release, Return}
use Rattle.carol_history.specs.Acts.{EachLive, Next, acts}
use Rattle.carol_history.specs.Journals.{global}

-- the guard of each live query of the session is true of what it got and this store
abbrev pub StandIn : Rules → ℕ → List Event → List CellValue → Type 0
StandIn p session past there =
    EachLive (λ guard here. GuardsIn (slice_get p.guards guard) here there) (acts session past)

-- a session closes its round over this store: its operation reads the attempt with the mark that
-- closes, the invariant is true of the store, and the guards of its live queries are
pub record Closes (p : Rules) (scene : Scene) (session : ℕ) (mark : Mark) (past : List Event) (store : List CellValue) : Type 0 where
  pub next : Next p scene session mark past
  pub invariant : MeetsInvariant p store
  pub stand : StandIn p session past store

-- what the event asks of the store at its time; what is no issue, release or return asks nothing
abbrev pub SequentialAt : Rules → Scene → Event → List Event → List CellValue → Type 0
SequentialAt p scene (Issue session entry effect) past store =
    Closes p scene session (Issued effect) past store
SequentialAt p scene (Release session) past store = Closes p scene session Released past store
SequentialAt p scene (Return session value) past store =
    Closes p scene session (Returned value) past store
SequentialAt p scene event past store = Unit {0}

-- each event finds what it asks for in the store that the issues before it come to
abbrev pub Sequential : Rules → Scene → List Event → Type 0
Sequential p scene [] = Unit {0}
Sequential p scene (event ∷ past) =
    SequentialAt p scene event past (global p past) × Sequential p scene past
