-- What holds of all tails.
use Rattle.std.specs.Prelude.{◌≡◌, ◌≢◌, ℕ, List}
use Rattle.carol_event.specs.declared.event.Event.{Event}
use Rattle.carol_audit.specs.declared.error.TailError.{TailError}
use Rattle.carol_audit.specs.declared.error.TailError.TheVariants.{NoMemory}
use Rattle.carol_audit.specs.Tails.{HasEvents, IsFault}

-- the lines fix the events
abbrev pub EventsAreSingle : Type 0
EventsAreSingle = (tail : List ℕ) (events others : List Event) →
    HasEvents tail events → HasEvents tail others → events ≡ others

-- a tail that has events has no fault
abbrev pub ReadHasNoFault : Type 0
ReadHasNoFault = (tail : List ℕ) (first : ℕ) (events : List Event) (error : TailError) →
    HasEvents tail events → IsFault tail first error → error ≡ NoMemory

-- and any other has one fault
abbrev pub FaultsAreSingle : Type 0
FaultsAreSingle = (tail : List ℕ) (first : ℕ) (one other : TailError) →
    IsFault tail first one → IsFault tail first other → one ≢ NoMemory → other ≢ NoMemory →
    one ≡ other
