-- The lines of events in front of a tail: there is one way to read them.
use Rattle.std.proofs.Common.{◌≡◌, ◌≢◌, ℕ, ◌+◌, ◌<◌, ◌≤◌, ◌⊎◌, List, [], ◌∷◌, ◌++◌, length, inl, inr, Err, refl, sym, ◌∙◌, ap, append_assoc, length-append, arith}
use Rattle.std.specs.Prelude.{codes, flat_map}
use Rattle.carol_event.specs.declared.event.Event.{Event}
use Rattle.carol_text.specs.Reading.{word_at}
use Rattle.carol_event.specs.Kinds.{kind_of, word_of}
use Rattle.carol_event.specs.Lines.{event_at}
use Rattle.carol_event.specs.Numbers.{Each, HasNumbers}
use Rattle.carol_event.specs.Texts.{event_line, event_text}
use Rattle.carol_event.proofs.Places.{bad_no_event, one_place}
use Rattle.carol_event.proofs.RoundTrip.{event_again, no_event, same_event}
use Rattle.carol_history.specs.declared.history.TheConstants.{MOST_EVENTS}
use Rattle.carol_audit.specs.declared.error.TailError.{TailError}
use Rattle.carol_audit.specs.declared.error.TailError.TheVariants.{Bad, TooLarge, NoMemory}
use Rattle.carol_audit.specs.Firsts.{IsFirstFault}
use Rattle.carol_audit.specs.Lines.{HasNoFeed}
use Rattle.carol_audit.specs.Tails.{Front, HasBad, HasEvents, HasTooMany, IsBadFirst, IsCutAt, IsEventFirst, IsFault, IsResultsFirst}
use Rattle.carol_audit.proofs.Feeds.{feed_in, no_feed-event, one_cut}

-- the line of an event is its text and a line feed
pub line_in : (event : Event) (rest : List ℕ) → event_line event ++ rest ≡ event_text event ++ 10 ∷ rest
line_in event rest = append_assoc (event_text event) (10 ∷ []) rest

-- ---- what the first line is

no_results_event : (event : Event) → HasNumbers event → event_text event ≡ codes "results" → ⊥
unfolding event_at kind_of word_of word_at
no_results_event event fits is = no_event (codes "results") 5 event fits (sym is) refl

results_text : HasNoFeed (codes "results")
results_text = refl

event_not_results : (bytes : List ℕ) (event : Event) (rest : List ℕ) → IsEventFirst bytes event rest → IsResultsFirst bytes → ⊥
event_not_results bytes event rest first results =
    let same = sym (first.are ∙ line_in event rest) ∙ results.1
    in no_results_event event first.fits (one_cut (event_text event) (codes "results") rest results.0 (no_feed-event event first.fits) results_text same).0

event_not_bad : (bytes : List ℕ) (event : Event) (rest : List ℕ) (column : ℕ) → IsEventFirst bytes event rest → IsBadFirst bytes column → ⊥
event_not_bad bytes event rest column first (inl bad) =
    let same = sym (first.are ∙ line_in event rest) ∙ bad.are
    in let text = (one_cut (event_text event) bad.line rest bad.rest (no_feed-event event first.fits) bad.whole same).0
    in bad_no_event bad.line column event first.fits (sym text) bad.bad
event_not_bad bytes event rest column first (inr cut) =
    feed_in (event_text event) rest (rw (first.are ∙ line_in event rest) at cut.whole)

results_not_bad : (bytes : List ℕ) (column : ℕ) → IsResultsFirst bytes → IsBadFirst bytes column → ⊥
results_not_bad bytes column results (inl bad) =
    bad.other (one_cut bad.line (codes "results") bad.rest results.0 bad.whole results_text (sym bad.are ∙ results.1)).0
results_not_bad bytes column results (inr cut) = feed_in (codes "results") results.0 (rw results.1 at cut.whole)

-- a bad line is bad in one column
one_column : (bytes : List ℕ) (column other : ℕ) → IsBadFirst bytes column → IsBadFirst bytes other → column ≡ other
one_column bytes column other (inl a) (inl b) =
    let same : a.line ≡ b.line = (one_cut a.line b.line a.rest b.rest a.whole b.whole (sym a.are ∙ b.are)).0
    in one_place b.line column other (rw same at a.bad) b.bad
one_column bytes column other (inl a) (inr b) = absurd (feed_in a.line a.rest (rw a.are at b.whole))
one_column bytes column other (inr a) (inl b) = absurd (feed_in b.line b.rest (rw b.are at a.whole))
one_column bytes column other (inr a) (inr b) = one_end a.bad b.bad
  where
    one_end : IsCutAt bytes column → IsCutAt bytes other → column ≡ other
    one_end (inl x) (inl y) = omega (arith, x.1, y.1)
    one_end (inl x) (inr y) = absurd (y.0 x.0)
    one_end (inr x) (inl y) = absurd (x.0 y.0)
    one_end (inr x) (inr y) = one_place bytes column other x.1 y.1

-- ---- the events in front

-- an event's line is the first one
abbrev BeginsAgain : List ℕ → Type 0
BeginsAgain bytes = (event : Event) × (rest : List ℕ) × IsEventFirst bytes event rest

-- of two ways to read, one goes on where the other ends
abbrev Compared : List Event → List ℕ → List Event → List ℕ → Type 0
Compared events rest others more =
    ((events ≡ others) × (rest ≡ more))
    ⊎ (((length others < length events) × BeginsAgain more) ⊎ ((length events < length others) × BeginsAgain rest))

longer : (event other : Event) (events : List Event) (rest : List ℕ) (others : List Event) (more : List ℕ) → event ≡ other → Compared events rest others more → Compared (event ∷ events) rest (other ∷ others) more
longer event other events rest others more same (inl (a, b)) = inl (rw (same, a) refl, b)
longer event other events rest others more same (inr (inl (a, b))) = inr (inl (omega arith, b))
longer event other events rest others more same (inr (inr (a, b))) = inr (inr (omega arith, b))

one_event : (event other : Event) → HasNumbers event → HasNumbers other → event_text event ≡ event_text other → event ≡ other
one_event event other fits also same = same_event (event_text other) event other also refl (ap event_at (sym same) ∙ event_again event fits)

compared : (events : List Event) (rest : List ℕ) (others : List Event) (more : List ℕ) → Each HasNumbers events → Each HasNumbers others → flat_map event_line events ++ rest ≡ flat_map event_line others ++ more → Compared events rest others more
compared [] rest [] more fit also same = inl (refl, same)
compared [] rest (other ∷ others) more fit also same =
    inr (inr (
      omega arith,
      (
        other,
        flat_map event_line others ++ more,
        record { are = same ∙ append_assoc (event_line other) (flat_map event_line others) more; fits = also.0 },
      ),
    ))
compared (event ∷ events) rest [] more fit also same =
    inr (inl (
      omega arith,
      (
        event,
        flat_map event_line events ++ rest,
        record { are = sym same ∙ append_assoc (event_line event) (flat_map event_line events) rest; fits = fit.0 },
      ),
    ))
compared (event ∷ events) rest (other ∷ others) more fit also same =
    let behind = flat_map event_line events ++ rest
    in let behind' = flat_map event_line others ++ more
    in let here : event_text event ++ 10 ∷ behind ≡ event_text other ++ 10 ∷ behind' =
    sym (append_assoc (event_line event) (flat_map event_line events) rest ∙ line_in event behind) ∙ same ∙ append_assoc (event_line other) (flat_map event_line others) more ∙ line_in other behind'
    in let cut = one_cut (event_text event) (event_text other) behind behind' (no_feed-event event fit.0) (no_feed-event other also.0) here
    in longer event other events rest others more (one_event event other fit.0 also.0 cut.0) (compared events rest others more fit.1 also.1 cut.1)

fronts_compared : (tail : List ℕ) (events : List Event) (rest : List ℕ) (others : List Event) (more : List ℕ) → Front tail events rest → Front tail others more → Compared events rest others more
fronts_compared tail events rest others more one other = compared events rest others more one.fit other.fit (sym one.are ∙ other.are)

-- the lines fix the events
pub one_reading : (tail : List ℕ) (events others : List Event) → HasEvents tail events → HasEvents tail others → events ≡ others
one_reading tail events others one other = at (fronts_compared tail events one.rest others other.rest one.front other.front)
  where
    at : Compared events one.rest others other.rest → events ≡ others
    at (inl (a, b)) = a
    at (inr (inl (a, b))) = absurd (event_not_results other.rest b.0 b.1 b.2 other.results)
    at (inr (inr (a, b))) = absurd (event_not_results one.rest b.0 b.1 b.2 one.results)

-- a tail that is read has no bad line
read_not_bad : (tail : List ℕ) (events : List Event) (first line column : ℕ) → HasEvents tail events → HasBad tail first line column → ⊥
read_not_bad tail events first line column read bad = at (fronts_compared tail events read.rest bad.events bad.rest read.front bad.front)
  where
    at : Compared events read.rest bad.events bad.rest → ⊥
    at (inl (a, b)) = results_not_bad bad.rest column (rw b at read.results) bad.bad
    at (inr (inl (a, b))) = event_not_bad bad.rest b.0 b.1 column b.2 bad.bad
    at (inr (inr (a, b))) = event_not_results read.rest b.0 b.1 b.2 read.results

-- and not too many events
read_not_many : (tail : List ℕ) (events : List Event) → HasEvents tail events → HasTooMany tail → ⊥
read_not_many tail events read many = at (fronts_compared tail events read.rest many.events many.rest read.front many.front)
  where
    at : Compared events read.rest many.events many.rest → ⊥
    at (inl (a, b)) = event_not_results many.rest many.event many.behind many.further (rw b at read.results)
    at (inr (inl (a, b))) = omega (arith, a, many.full, read.front.few)
    at (inr (inr (a, b))) = event_not_results read.rest b.0 b.1 b.2 read.results

-- what is wrong with a tail is one thing, but for want of memory
pub not_both : (tail : List ℕ) (first : ℕ) (events : List Event) (error : TailError) → HasEvents tail events → IsFault tail first error → error ≡ NoMemory
not_both tail first events (Bad line column) read bad = absurd (read_not_bad tail events first line column read bad)
not_both tail first events TooLarge read many = absurd (read_not_many tail events read many)
not_both tail first events NoMemory read free = refl

one_bad_place : (tail : List ℕ) (first line column line' column' : ℕ) → HasBad tail first line column → HasBad tail first line' column' → Bad line column ≡ Bad line' column'
one_bad_place tail first line column line' column' one other = at (fronts_compared tail one.events one.rest other.events other.rest one.front other.front)
  where
    at : Compared one.events one.rest other.events other.rest → Bad line column ≡ Bad line' column'
    at (inl (a, b)) =
        let place : column ≡ column' = one_column other.rest column column' (rw b at one.bad) other.bad
        in let long : length one.events ≡ length other.events = ap length a
        in let number : line ≡ line' = omega (arith, one.counted, other.counted)
        in rw (place, number) refl
    at (inr (inl (a, b))) = absurd (event_not_bad other.rest b.0 b.1 column' b.2 other.bad)
    at (inr (inr (a, b))) = absurd (event_not_bad one.rest b.0 b.1 column b.2 one.bad)

bad_not_many : (tail : List ℕ) (first line column : ℕ) → HasBad tail first line column → HasTooMany tail → ⊥
bad_not_many tail first line column bad many = at (fronts_compared tail bad.events bad.rest many.events many.rest bad.front many.front)
  where
    at : Compared bad.events bad.rest many.events many.rest → ⊥
    at (inl (a, b)) = event_not_bad many.rest many.event many.behind column many.further (rw b at bad.bad)
    at (inr (inl (a, b))) = omega (arith, a, many.full, bad.front.few)
    at (inr (inr (a, b))) = event_not_bad bad.rest b.0 b.1 column b.2 bad.bad

pub one_fault : (tail : List ℕ) (first : ℕ) (error other : TailError) → IsFault tail first error → IsFault tail first other → error ≢ NoMemory → other ≢ NoMemory → error ≡ other
one_fault tail first (Bad line column) (Bad line' column') one other told also = one_bad_place tail first line column line' column' one other
one_fault tail first (Bad line column) TooLarge one other told also = absurd (bad_not_many tail first line column one other)
one_fault tail first TooLarge (Bad line column) one other told also = absurd (bad_not_many tail first line column other one)
one_fault tail first TooLarge TooLarge one other told also = refl
one_fault tail first NoMemory other one free told also = absurd (told refl)
one_fault tail first error NoMemory one other told also = absurd (also refl)

-- there are no more events than bytes
lines_long : (events : List Event) → length events ≤ length (flat_map event_line events)
lines_long [] = omega arith
lines_long (event ∷ events) =
    let here : length (event_line event ++ flat_map event_line events) ≡ length (event_text event) + 1 + length (flat_map event_line events) = simp length-append
    in omega (arith, here, lines_long events)

pub front_short : (tail : List ℕ) (events : List Event) (rest : List ℕ) → Front tail events rest → length events ≤ length tail
front_short tail events rest front =
    let all : length tail ≡ length (flat_map event_line events) + length rest = ap length front.are ∙ length-append (flat_map event_line events) rest
    in omega (arith, all, lines_long events)

-- the tail is read, or its fault is that of the first line behind the events
pub read_to : (tail : List ℕ) (events others : List Event) (rest : List ℕ) → Front tail events rest → IsResultsFirst rest → HasEvents tail others → events ≡ others
read_to tail events others rest front results other = one_reading tail events others (record { rest = rest; front = front; results = results }) other

pub free_fault : (tail : List ℕ) (first : ℕ) (events others : List Event) (rest : List ℕ) (error : TailError) → Front tail events rest → IsFirstFault rest (first + length events) error → HasEvents tail others → error ≡ NoMemory
free_fault tail first events others rest (Bad line column) front fault other = not_both tail first others (Bad line column) other (record { events = events; rest = rest; front = front; counted = fault.0; bad = fault.1 })
free_fault tail first events others rest TooLarge front fault other = absurd fault
free_fault tail first events others rest NoMemory front fault other = refl

pub many_not_read : (tail : List ℕ) (events others : List Event) (rest : List ℕ) (event : Event) (behind : List ℕ) → Front tail events rest → length events ≡ MOST_EVENTS → IsEventFirst rest event behind → HasEvents tail others → ⊥
many_not_read tail events others rest event behind front full further other =
    read_not_many tail others other (record { events = events; rest = rest; front = front; full = full; event = event; behind = behind; further = further })
