-- One event after another.
use Rattle.std.proofs.Common.{◌≡◌, ℕ, ◌+◌, ◌<◌, suc, true, false, List, [], ◌∷◌, ◌++◌, length, reverse, drop, drop-cons, get_or, add-one, refl, sym, ◌∙◌, ap, append_assoc, append-nil, arith}
use Rattle.std.proofs.lemmas.List.{length-reverse, reverse-append, reverse-reverse}
use Rattle.carol_program.specs.Rules.{rules_in}
use Rattle.carol_program.specs.declared.scenes.Scene.{Scene}
use Rattle.carol_reading.specs.Kept.{Kept}
use Rattle.carol_event.specs.declared.event.Event.{Event}
use Rattle.carol_history.specs.Legal.{Legal}
use Rattle.carol_history.specs.Runs.{Run}
use Rattle.carol_house.specs.House.{House, Enters, rules_of}
use Rattle.carol_audit.specs.Rulings.{Comes, IsFirstFalse, IsGenuine}

-- the house has all events but those that are left, and the program can make them
pub record Auditing (kept : Kept) (scene : Scene) (events left : List Event) (count : ℕ) (house : House) : Type 0 where
  pub kept_is : house.kept ≡ kept
  pub scene_is : house.scene ≡ scene
  pub all : events ≡ reverse house.history ++ left
  pub counted : length house.history ≡ count
  pub run : Run (rules_in kept.program) scene house.history

-- the events from this place on
next_event : (events : List Event) (place : ℕ) (event : Event) → place < length events → event ≡ get_or events place event → drop place events ≡ event ∷ drop (place + 1) events
next_event events place event inside read = rw add-one (drop-cons events place event inside ∙ ap (λ (x : Event). x ∷ drop (suc place) events) (sym read))

-- before the first event
pub starts : (events : List Event) (house : House) → house.history ≡ [] → Auditing house.kept house.scene events events 0 house
starts events house empty = record { kept_is = refl; scene_is = refl; all = rw empty refl; counted = rw empty refl; run = rw empty tt }

-- what may come after the events of the house, by its own program and scene
legal_of : (kept : Kept) (scene : Scene) (house : House) (event : Event) → house.kept ≡ kept → house.scene ≡ scene → Legal (rules_of house) house.scene event house.history → Legal (rules_in kept.program) scene event house.history
legal_of kept scene house event k s legal = rw (k, s) at legal

legal_in : (kept : Kept) (scene : Scene) (house : House) (event : Event) → house.kept ≡ kept → house.scene ≡ scene → Legal (rules_in kept.program) scene event house.history → Legal (rules_of house) house.scene event house.history
legal_in kept scene house event k s legal = rw (k, s) legal

one_on : (past : List Event) (event : Event) (left : List Event) → reverse past ++ (event ∷ left) ≡ reverse (event ∷ past) ++ left
one_on past event left = sym (append_assoc (reverse past) (event ∷ []) left) ∙ ap (λ (es : List Event). es ++ left) (sym (reverse-append (event ∷ []) past))

-- the event was entered
goes_on : (kept : Kept) (scene : Scene) (events : List Event) (event : Event) (left : List Event) (count : ℕ) (now new : House) → Auditing kept scene events (event ∷ left) count now → Legal (rules_of now) now.scene event now.history → Enters now event new → Auditing kept scene events left (count + 1) new
goes_on kept scene events event left count now new h legal enters =
    record {
      kept_is = enters.over.kept ∙ h.kept_is;
      scene_is = enters.over.scene ∙ h.scene_is;
      all = rw enters.history (h.all ∙ one_on now.history event left);
      counted = rw enters.history (omega (arith, h.counted));
      run = rw enters.history (legal_of kept scene now event h.kept_is h.scene_is legal, h.run);
    }

-- it may not come
stops : (kept : Kept) (scene : Scene) (events : List Event) (event : Event) (left : List Event) (count : ℕ) (now : House) → Auditing kept scene events (event ∷ left) count now → (Legal (rules_of now) now.scene event now.history → ⊥) → IsFirstFalse (rules_in kept.program) scene events (count + 1)
stops kept scene events event left count now h illegal = record {
  before = reverse now.history;
  event = event;
  after = left;
  are = h.all;
  counted = omega (arith, h.counted, length-reverse now.history);
  run = rw (reverse-reverse now.history) h.run;
  illegal = rw (reverse-reverse now.history) (λ legal. illegal (legal_in kept scene now event h.kept_is h.scene_is legal));
}

-- all were entered
pub genuine : (kept : Kept) (scene : Scene) (events : List Event) (count : ℕ) (now : House) → Auditing kept scene events [] count now → IsGenuine kept scene events now
genuine kept scene events count now h =
    let all : reverse events ≡ now.history = ap reverse (h.all ∙ append-nil (reverse now.history)) ∙ reverse-reverse now.history
    in record { kept_is = h.kept_is; scene_is = h.scene_is; history = sym all; run = rw all h.run }

-- the same by the place of the event
pub goes_on_at : (kept : Kept) (scene : Scene) (events : List Event) (place : ℕ) (event : Event) (now new : House) → place < length events → event ≡ get_or events place event → Auditing kept scene events (drop place events) place now → Comes now event true new → Auditing kept scene events (drop (place + 1) events) (place + 1) new
goes_on_at kept scene events place event now new inside read h came =
    goes_on kept scene events event (drop (place + 1) events) place now new (rw (next_event events place event inside read) at h) came.0 came.1

pub stops_at : (kept : Kept) (scene : Scene) (events : List Event) (place : ℕ) (event : Event) (now new : House) → place < length events → event ≡ get_or events place event → Auditing kept scene events (drop place events) place now → Comes now event false new → IsFirstFalse (rules_in kept.program) scene events (place + 1)
stops_at kept scene events place event now new inside read h illegal =
    stops kept scene events event (drop (place + 1) events) place now (rw (next_event events place event inside read) at h) illegal
