-- The tail of a transcript: the bytes behind its first line.
use Rattle.std.specs.Prelude.{◌≡◌, ◌≢◌, ◌⊎◌, ℕ, ◌+◌, ◌≤◌, true, List, [], ◌∷◌, ◌++◌, codes, length, flat_map, nat_eq}
use Rattle.std.specs.List.{starts_with}
use Rattle.carol_event.specs.declared.event.Event.{Event}
use Rattle.carol_event.specs.Faults.{IsBad}
use Rattle.carol_event.specs.Numbers.{Each, HasNumbers}
use Rattle.carol_event.specs.Texts.{event_line, event_text}
use Rattle.carol_history.specs.declared.history.TheConstants.{MOST_EVENTS}
use Rattle.carol_audit.specs.declared.error.TailError.{TailError}
use Rattle.carol_audit.specs.declared.error.TailError.TheVariants.{Bad, TooLarge, NoMemory}
use Rattle.carol_audit.specs.Lines.{HasNoFeed}

-- the line that ends the events
abbrev pub results_line : List ℕ
results_line = codes "results" ++ 10 ∷ []

-- the tail has the lines of these events in front, and this is the rest
pub record Front (tail : List ℕ) (events : List Event) (rest : List ℕ) : Type 0 where
  pub are : tail ≡ flat_map event_line events ++ rest
  pub fit : Each HasNumbers events
  pub few : length events ≤ MOST_EVENTS

-- the first line is the text of this event
pub record IsEventFirst (bytes : List ℕ) (event : Event) (rest : List ℕ) : Type 0 where
  pub are : bytes ≡ event_line event ++ rest
  pub fits : HasNumbers event

-- the first line is `results`
abbrev pub IsResultsFirst : List ℕ → Type 0
IsResultsFirst bytes = (rest : List ℕ) × (bytes ≡ results_line ++ rest)

-- the first line, which a line feed ends, is neither of these: it is bad in this column
pub record IsBadLine (bytes : List ℕ) (column : ℕ) : Type 0 where
  pub line : List ℕ
  pub rest : List ℕ
  pub are : bytes ≡ line ++ 10 ∷ rest
  pub whole : HasNoFeed line
  pub other : line ≢ codes "results"
  pub bad : IsBad line column

-- nothing but its end is missing: the line may go on as `results`, or it is an event's text
abbrev pub LacksEnd : List ℕ → Type 0
LacksEnd line = (starts_with nat_eq (codes "results") line ≡ true)
    ⊎ ((event : Event) × HasNumbers event × (line ≡ event_text event))

-- the line is bad in this column, if no line feed ends it
abbrev pub IsCutAt : List ℕ → ℕ → Type 0
IsCutAt line column = (LacksEnd line × (column ≡ length line + 1))
    ⊎ ((LacksEnd line → ⊥) × IsBad line column)

-- no line feed ends the first line: it is bad in this column
pub record IsCutLine (bytes : List ℕ) (column : ℕ) : Type 0 where
  pub whole : HasNoFeed bytes
  pub bad : IsCutAt bytes column

abbrev pub IsBadFirst : List ℕ → ℕ → Type 0
IsBadFirst bytes column = IsBadLine bytes column ⊎ IsCutLine bytes column

-- the tail has the lines of these events, and then the line `results`
pub record HasEvents (tail : List ℕ) (events : List Event) : Type 0 where
  pub rest : List ℕ
  pub front : Front tail events rest
  pub results : IsResultsFirst rest

-- behind the lines of events stands one that is bad, at this place, if the tail begins with this
-- line
pub record HasBad (tail : List ℕ) (first line column : ℕ) : Type 0 where
  pub events : List Event
  pub rest : List ℕ
  pub front : Front tail events rest
  pub counted : line ≡ first + length events
  pub bad : IsBadFirst rest column

-- behind the lines of as many events as there may be stands another one's
pub record HasTooMany (tail : List ℕ) : Type 0 where
  pub events : List Event
  pub rest : List ℕ
  pub front : Front tail events rest
  pub full : length events ≡ MOST_EVENTS
  pub event : Event
  pub behind : List ℕ
  pub further : IsEventFirst rest event behind

-- what is wrong with the tail, if it begins with this line
abbrev pub IsFault : List ℕ → ℕ → TailError → Type 0
IsFault tail first (Bad line column) = HasBad tail first line column
IsFault tail first TooLarge = HasTooMany tail
IsFault tail first NoMemory = Unit {0}
