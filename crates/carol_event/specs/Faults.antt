-- Where a line that is no event's text is bad.
use Rattle.std.specs.Prelude.{◌≡◌, ◌⊎◌, ℕ, ◌+◌, List, [], ◌∷◌, ◌++◌, codes, length, Result, Ok, Err}
use Rattle.carol_store.specs.declared.short_list.TheConstants.{MOST_CELLS}
use Rattle.carol_event.specs.declared.error.LineError.{LineError}
use Rattle.carol_event.specs.declared.error.LineError.TheVariants.{Bad, NoMemory}
use Rattle.carol_event.specs.declared.event.Event.{Event}
use Rattle.carol_event.specs.declared.event.Event.TheVariants.{Query, Issue}
use Rattle.carol_event.specs.Numbers.{HasNumbers}
use Rattle.carol_event.specs.Texts.{event_text}

-- the text of an event begins with these bytes
abbrev pub BeginsEvent : List ℕ → Type 0
BeginsEvent front =
    (event : Event) × HasNumbers event × (rest : List ℕ) × (event_text event ≡ front ++ rest)

-- the event has as many values or atoms as it may have
abbrev pub IsFull : Event → Type 0
IsFull (Query session guard store) = length store ≡ MOST_CELLS
IsFull (Issue session entry effect) = length effect ≡ MOST_CELLS
IsFull event = ⊥

-- the text of such an event, and the space before an item too many
abbrev pub EndsFull : List ℕ → Type 0
EndsFull front =
    (event : Event) × HasNumbers event × IsFull event × (front ≡ event_text event ++ codes " ")

-- what may stand before a bad byte
abbrev pub IsGood : List ℕ → Type 0
IsGood front = BeginsEvent front ⊎ EndsFull front

-- with the byte that comes next it is good no more; where none comes, it is no event's text
abbrev pub Stops : List ℕ → List ℕ → Type 0
Stops front [] = (event : Event) → HasNumbers event → front ≡ event_text event → ⊥
Stops front (byte ∷ rest) = IsGood (front ++ byte ∷ []) → ⊥

-- the line is bad in this column, from 1
pub record IsBad (line : List ℕ) (column : ℕ) : Type 0 where
  pub front : List ℕ
  pub rest : List ℕ
  pub are : line ≡ front ++ rest
  pub place : column ≡ length front + 1
  pub good : IsGood front
  pub stops : Stops front rest

-- what parsing the line answers where it finds no event
abbrev pub Refuses : List ℕ → Result Event LineError → Type 0
Refuses line (Ok event) = Unit {0}
Refuses line (Err (Bad column)) = IsBad line column
Refuses line (Err NoMemory) = ⊥
