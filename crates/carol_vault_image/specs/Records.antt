-- How events lie in a file: each behind an open gate, and a shut gate behind the last.
use Rattle.std.specs.Prelude.{◌≡◌, ℕ, ◌/◌, ◌%◌, List, [], ◌∷◌, ◌++◌, length, drop}
use Rattle.carol_disk.specs.Gates.{EndsBehind}
use Rattle.carol_event.specs.declared.event.Event.{Event}
use Rattle.carol_event.specs.Numbers.{Each, HasNumbers}
use Rattle.carol_event.specs.Texts.{event_line}
use Rattle.carol_vault_image.specs.declared.record.Taken.{Taken}
use Rattle.carol_vault_image.specs.declared.image.Image.{Image}

-- a record behind its gate: the length of the event's line in two bytes, the higher first, and the
-- line
abbrev pub body_of : Event → List ℕ
body_of event =
    length (event_line event) / 256 ∷ length (event_line event) % 256 ∷ event_line event

-- a record behind an open gate
abbrev pub record_of : Event → List ℕ
record_of event = 1 ∷ body_of event

-- those of the events, one after the other
abbrev pub records : List Event → List ℕ
records [] = []
records (event ∷ events) = record_of event ++ records events

-- the file is the records of the events, a shut gate, and whatever stands behind it; or there are
-- none, and it has at most one byte
abbrev pub Shows : List ℕ → List Event → Type 0
Shows file events = EndsBehind (records events) file

-- no whole record stands in front
abbrev pub BeginsNoRecord : List ℕ → Type 0
BeginsNoRecord end =
    (event : Event) (rest : List ℕ) → HasNumbers event → end ≡ record_of event ++ rest → ⊥

-- these are the events of the longest run of whole records from the front, and this is the rest
pub record IsRead (file : List ℕ) (events : List Event) (end : List ℕ) : Type 0 where
  pub are : file ≡ records events ++ end
  pub fit : Each HasNumbers events
  pub last : BeginsNoRecord end

-- the same with the place where the rest begins
pub record IsImage (file : List ℕ) (image : Image) : Type 0 where
  pub read : IsRead file image.events.items (drop image.end file)
  pub end_is : image.end ≡ length (records image.events.items)

-- the record in front, with the number of its bytes; or there is none
pub record IsTaken (file : List ℕ) (taken : Taken) : Type 0 where
  pub are : file ≡ record_of taken.event ++ drop taken.used file
  pub fits : HasNumbers taken.event
  pub used_is : taken.used ≡ length (record_of taken.event)
