-- A file has one reading.
use Rattle.std.proofs.Common.{◌≡◌, ℕ, ◌+◌, ◌/◌, ◌%◌, ◌≤◌, List, [], ◌∷◌, ◌++◌, length, take, drop, refl, sym, ◌∙◌, ap, arith, append_assoc, append-nil, length-append, length-drop}
use Rattle.std.proofs.lemmas.List.{take_at, drop_at, drop-drop, same_from_push}
use Rattle.std.specs.Prelude.{Ok}
use Rattle.carol_event.specs.declared.event.Event.{Event}
use Rattle.carol_event.specs.Lines.{event_at}
use Rattle.carol_event.specs.Numbers.{Each, HasNumbers}
use Rattle.carol_event.specs.Texts.{event_line, event_text}
use Rattle.carol_event.proofs.RoundTrip.{event_again}
use Rattle.carol_disk.specs.Gates.{IsShut}
use Rattle.carol_vault_image.specs.Records.{BeginsNoRecord, IsRead, record_of, records}

-- the parts of a list at a number's length
parts : (xs ys left right : List ℕ) → length xs ≡ length ys → xs ++ left ≡ ys ++ right → (xs ≡ ys) × (left ≡ right)
parts xs ys left right long same =
    (sym (take_at xs left (length ys) long) ∙ ap (λ (l : List ℕ). take (length ys) l) same ∙ take_at ys right (length ys) refl, sym (drop_at xs left (length ys) long) ∙ ap (λ (l : List ℕ). drop (length ys) l) same ∙ drop_at ys right (length ys) refl)

-- a line is of one event
pub one_line : (one other : Event) → HasNumbers one → HasNumbers other → event_line one ≡ event_line other → one ≡ other
one_line one other fits also same =
    let texts : event_text one ≡ event_text other = (same_from_push (event_text one) (event_text other) 10 10 same).0 in
    let read : Ok one ≡ Ok other = sym (event_again one fits) ∙ ap event_at texts ∙ event_again other also in
    cc

-- a length by its two bytes
two_bytes : (m n : ℕ) → m / 256 ≡ n / 256 → m % 256 ≡ n % 256 → m ≡ n
two_bytes m n high low = omega (arith, high, low)

-- the record in front is of one event
pub one_record : (one other : Event) (left right : List ℕ) → HasNumbers one → HasNumbers other → record_of one ++ left ≡ record_of other ++ right → (one ≡ other) × (left ≡ right)
one_record one other left right fits also same =
    let high : length (event_line one) / 256 ≡ length (event_line other) / 256 = cc in
    let low : length (event_line one) % 256 ≡ length (event_line other) % 256 = cc in
    let behind : event_line one ++ left ≡ event_line other ++ right = cc in
    let split = parts (event_line one) (event_line other) left right (two_bytes (length (event_line one)) (length (event_line other)) high low) behind in
    (one_line one other fits also split.0, split.1)

-- the events of a file and its end
pub one_reading : (file : List ℕ) (events others : List Event) (end rest : List ℕ) → IsRead file events end → IsRead file others rest → (events ≡ others) × (end ≡ rest)
one_reading file [] [] end rest read again = (refl, sym read.are ∙ again.are)
one_reading file [] (other ∷ others) end rest read again =
    absurd (read.last other (records others ++ rest) again.fit.0 (sym read.are ∙ again.are ∙ append_assoc (record_of other) (records others) rest))
one_reading file (event ∷ events) [] end rest read again =
    absurd (again.last event (records events ++ end) read.fit.0 (sym again.are ∙ read.are ∙ append_assoc (record_of event) (records events) end))
one_reading file (event ∷ events) (other ∷ others) end rest read again =
    let first = one_record event other (records events ++ end) (records others ++ rest) read.fit.0 again.fit.0
    (sym (append_assoc (record_of event) (records events) end) ∙ sym read.are ∙ again.are ∙ append_assoc (record_of other) (records others) rest) in
    let more = one_reading (records events ++ end) events others end rest
    (record { are = refl; fit = read.fit.1; last = read.last })
    (record { are = first.1; fit = again.fit.1; last = again.last }) in
    let same : event ≡ other = first.0 in
    let rest_same : events ≡ others = more.0 in
    (cc, more.1)

-- no record stands behind a shut gate
pub shut_no_record : (end : List ℕ) → IsShut end → BeginsNoRecord end
shut_no_record [] shut event rest fits is = shut
shut_no_record (gate ∷ more) shut event rest fits is = let one : gate ≡ 1 = cc in shut one

-- nor in a file of one byte
pub short_no_record : (file : List ℕ) → length file ≤ 1 → BeginsNoRecord file
short_no_record file short event rest fits is = absurd (omega (arith, ap length is, length-append (record_of event) rest))

pub records-push : (events : List Event) (event : Event) (rest : List ℕ) → records (events ++ event ∷ []) ++ rest ≡ records events ++ (record_of event ++ rest)
records-push [] event rest = ap (λ (l : List ℕ). l ++ rest) (append-nil (record_of event))
records-push (e ∷ events) event rest =
    append_assoc (record_of e) (records (events ++ event ∷ [])) rest
    ∙ ap (λ (l : List ℕ). record_of e ++ l) (records-push events event rest)
    ∙ sym (append_assoc (record_of e) (records events) (record_of event ++ rest))

pub length-records-push : (events : List Event) (event : Event) → length (records (events ++ event ∷ [])) ≡ length (records events) + length (record_of event)
length-records-push events event =
    ap length (sym (append-nil (records (events ++ event ∷ []))) ∙ records-push events event [] ∙ ap (λ (l : List ℕ). records events ++ l) (append-nil (record_of event)))
    ∙ length-append (records events) (record_of event)

pub each_push : (events : List Event) (event : Event) → Each HasNumbers events → HasNumbers event → Each HasNumbers (events ++ event ∷ [])
each_push [] event fit fits = (fits, tt)
each_push (e ∷ events) event fit fits = (fit.0, each_push events event fit.1 fits)

-- one record more
pub more_are : (file : List ℕ) (events : List Event) (event : Event) (end used : ℕ) → file ≡ records events ++ drop end file
    → drop end file ≡ record_of event ++ drop used (drop end file) → file ≡ records (events ++ event ∷ []) ++ drop (end + used) file
more_are file events event end used are taken =
    are ∙ ap (λ (l : List ℕ). records events ++ l) (taken ∙ ap (λ (l : List ℕ). record_of event ++ l) (drop-drop used end file)) ∙ sym (records-push events event (drop (end + used) file))

pub more_within : (file : List ℕ) (event : Event) (end used : ℕ) → end ≤ length file → drop end file ≡ record_of event ++ drop used (drop end file) → used ≡ length (record_of event) → end + used ≤ length file
more_within file event end used within taken used_is =
    omega (arith, within, used_is, ap length taken, length-append (record_of event) (drop used (drop end file)), length-drop end file)

-- a file of one byte has no record
pub short_none : (file : List ℕ) (events : List Event) (end : List ℕ) → file ≡ records events ++ end → length file ≤ 1 → length (records events) ≡ 0
short_none file [] end are short = refl
short_none file (event ∷ events) end are short =
    absurd (omega (arith, ap length are, short, length-append (record_of event ++ records events) end, length-append (record_of event) (records events)))
