-- A history that goes on, and what is told of it.
use Rattle.std.proofs.Common.{◌≡◌, ◌≤◌, ℕ, ◌+◌, Bool, true, false, List, [], ◌∷◌, ◌++◌, length, take, drop, refl, sym, ◌∙◌, ap, subst, arith, append_assoc}
use Rattle.std.specs.Prelude.{Option, reverse}
use Rattle.std.specs.Io.KnownBytes.{Appends}
use Rattle.std.specs.List.{flat_map}
use Rattle.std.proofs.KnownBytes.{Appends-nil, Appends-trans}
use Rattle.std.proofs.lemmas.Grind.{flat_map-append}
use Rattle.std.proofs.lemmas.List.{length-append, length-reverse, reverse-append, append-nil, take-append-le, take_all}
use Rattle.std.proofs.Math.Seq.{take-append-add}
use Rattle.carol_event.specs.declared.event.Event.{Event}
use Rattle.carol_event.specs.Texts.{event_line}
use Rattle.carol_house.specs.House.{House}
use Rattle.carol_vault_image.specs.Records.{Shows}
use Rattle.carol_vault.specs.Vaults.{Holds, Vaulted, acknowledged, events_of}
use Rattle.carol_kept_run.specs.Going.{IsLater}
use Rattle.carol_kept_run.specs.Telling.{Tells, TellsPart, acknowledged_part, lines_of}

pub later_self : (past : List Event) → IsLater past past
later_self past = ([], refl)

pub later_more : (old new : List Event) (event : Event) → new ≡ event ∷ old → IsLater old new
later_more old new event is = (event ∷ [], is)

pub later_same : (old new : List Event) → new ≡ old → IsLater old new
later_same old new is = ([], is)

pub later_both : (old mid new : List Event) → IsLater old mid → IsLater mid new → IsLater old new
later_both old mid new first second =
    (second.0 ++ first.0, second.1 ∙ ap (λ (l : List Event). second.0 ++ l) first.1 ∙ sym (append_assoc second.0 first.0 old))

-- what a history shows, a later one shows
pub holds_later : (least more : ℕ) (old new : House) (c : List ℕ) → least ≤ more → IsLater old.history new.history → Holds more old c → Holds least new c
holds_later least more old new c le later h = record {
  count = h.count;
  enough = omega (arith, le, h.enough);
  within = omega (arith, h.within, ap length later.1, length-append later.0 old.history);
  shows = subst (Shows c) (sym front) h.shows;
}
  where
    long : h.count ≤ length (reverse old.history)
    long = omega (arith, h.within, length-reverse old.history)

    front : take h.count (events_of new) ≡ take h.count (events_of old)
    front = ap (λ (l : List Event). take h.count (reverse l)) later.1
        ∙ ap (λ (l : List Event). take h.count l) (reverse-append later.0 old.history)
        ∙ take-append-le h.count (reverse old.history) (reverse later.0) long

-- no fewer events are acknowledged of a vault that is open
pub acknowledged_later : {D : Type 0} (old new : Vaulted D) → old.closed ≡ false → new.closed ≡ false → IsLater old.house.history new.house.history
    → acknowledged old ≤ acknowledged new
acknowledged_later old new is_open stays later =
    rw (is_open, stays) (omega (arith, ap length later.1, length-append later.0 old.house.history))

pub open_part : {D : Type 0} (v : Vaulted D) → v.closed ≡ false → acknowledged_part v ≡ v.house.history
open_part v is_open = rw is_open refl

-- ---- what is told

-- nothing yet
pub tells_none : (past : List Event) (before : Option (List ℕ)) → Tells past past before before
tells_none past before = record { events = []; come = refl; told = Appends-nil before }

come_more : (events : List Event) (old mid new : List Event) (event : Event) → mid ≡ reverse events ++ old → new ≡ event ∷ mid
    → new ≡ reverse (events ++ event ∷ []) ++ old
come_more events old mid new event come is =
    is ∙ ap (λ (l : List Event). event ∷ l) come ∙ sym (ap (λ (l : List Event). l ++ old) (reverse-append events (event ∷ [])))

lines_more : (events : List Event) (event : Event) → lines_of (events ++ event ∷ []) ≡ lines_of events ++ (event_line event ++ [])
lines_more events event = flat_map-append event_line events (event ∷ [])

nil_behind : (line : List ℕ) → line ++ [] ≡ line
nil_behind line = append-nil line

-- one line more
pub tells_more : (old mid new : List Event) (event : Event) (before after last : Option (List ℕ)) → Tells old mid before after → new ≡ event ∷ mid
    → Appends after last (event_line event) → Tells old new before last
tells_more old mid new event before after last tells is line = record {
  events = tells.events ++ event ∷ [];
  come = come_more tells.events old mid new event tells.come is;
  told = subst (Appends before last) (sym (lines_more tells.events event ∙ ap (λ (l : List ℕ). lines_of tells.events ++ l) (nil_behind (event_line event))))
      (Appends-trans before after last (lines_of tells.events) (event_line event) tells.told line);
}

-- all of it is a part
pub part_whole : (old new : List Event) (before after : Option (List ℕ)) → Tells old new before after → TellsPart old new before after
part_whole old new before after tells = record {
  events = tells.events;
  come = tells.come;
  count = length (lines_of tells.events);
  told = subst (Appends before after) (sym (take_all (length (lines_of tells.events)) (lines_of tells.events) (omega arith))) tells.told;
}

-- a part of one line more
pub part_more : (old mid new : List Event) (event : Event) (before after last : Option (List ℕ)) (count : ℕ) → Tells old mid before after → new ≡ event ∷ mid
    → Appends after last (take count (event_line event)) → TellsPart old new before last
part_more old mid new event before after last count tells is line = record {
  events = tells.events ++ event ∷ [];
  come = come_more tells.events old mid new event tells.come is;
  count = length (lines_of tells.events) + count;
  told = subst (Appends before last) (sym front)
      (Appends-trans before after last (lines_of tells.events) (take count (event_line event)) tells.told line);
}
  where
    front : take (length (lines_of tells.events) + count) (lines_of (tells.events ++ event ∷ [])) ≡ lines_of tells.events ++ take count (event_line event)
    front = ap (λ (l : List ℕ). take (length (lines_of tells.events) + count) l)
        (lines_more tells.events event ∙ ap (λ (l : List ℕ). lines_of tells.events ++ l) (nil_behind (event_line event)))
        ∙ take-append-add (lines_of tells.events) (event_line event) count
