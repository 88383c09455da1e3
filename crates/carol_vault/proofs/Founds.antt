-- What is found of a file that was read.
use Rattle.std.proofs.Common.{◌≡◌, ◌≤◌, ◌<◌, ℕ, ◌+◌, min, Bool, true, false, List, [], length, take, drop, refl, sym, ◌∙◌, ap, subst, inl, inr, arith, length-drop}
use Rattle.std.proofs.lemmas.List.{nil_from_length, take_all}
use Rattle.carol_program.specs.Rules.{rules_in}
use Rattle.carol_program.specs.declared.scenes.Scene.{Scene}
use Rattle.carol_reading.specs.Kept.{Kept}
use Rattle.carol_event.specs.declared.event.Event.{Event}
use Rattle.carol_history.specs.declared.history.TheConstants.{MOST_EVENTS}
use Rattle.carol_house.specs.House.{House}
use Rattle.carol_audit.specs.declared.ruling.Ruling.{Ruling}
use Rattle.carol_audit.specs.declared.ruling.Ruling.TheVariants.{Genuine, FirstFalse}
use Rattle.carol_audit.specs.Rulings.{IsFirstFalse, IsGenuine}
use Rattle.carol_audit.specs.Rulings as Rulings
use Rattle.carol_vault_image.specs.Records.{IsRead, records}
use Rattle.carol_vault.specs.Finding.{Holds, IsClosed, IsIllegal, Tells, found_of}
use Rattle.carol_vault.proofs.OneFinding.{first_few, first_front}

module _ (kept : Kept) (scene : Scene) (file : List ℕ) (events : List Event) (place few : ℕ) (few_is : few ≡ min (length events) MOST_EVENTS)
    (read : IsRead file events (drop place file)) (closed : IsClosed file (drop place file)) where
  -- all events were audited
  pub sound_found : (house : House) → drop few events ≡ [] → place ≡ length (records events) → IsGenuine kept scene (take few events) house → Holds kept scene file house place
  sound_found house none place_is genuine =
      let all : length events ≤ few = omega (arith, length-drop few events, ap length none) in
      let same : take few events ≡ events = take_all few events all in
      let whole : IsGenuine kept scene events house = subst (λ (l : List Event). IsGenuine kept scene l house) same genuine in
      record {
        events = events;
        sound = record { end = drop place file; read = read; closed = closed; run = whole.run; few = omega (arith, all, few_is) };
        genuine = whole;
        place_is = place_is;
      }

  -- an audited one may not come
  pub false_found : (number : ℕ) → IsFirstFalse (rules_in kept.program) scene (take few events) number → IsIllegal (rules_in kept.program) scene file number
  false_found number first = record {
    events = events;
    end = drop place file;
    read = read;
    closed = closed;
    first = inl (first_front (rules_in kept.program) scene events few number first, omega (arith, first_few (rules_in kept.program) scene events few number first, few_is));
  }

  -- there are too many
  pub many_found : (house : House) → 1 ≤ length (drop few events) → IsGenuine kept scene (take few events) house → IsIllegal (rules_in kept.program) scene file (MOST_EVENTS + 1)
  many_found house some genuine =
      let more : MOST_EVENTS < length events = omega (arith, some, few_is, length-drop few events) in
      let most : few ≡ MOST_EVENTS = omega (arith, more, few_is) in
      let whole : IsGenuine kept scene (take MOST_EVENTS events) house = subst (λ (n : ℕ). IsGenuine kept scene (take n events) house) most genuine in
      record { events = events; end = drop place file; read = read; closed = closed; first = inr (refl, more, whole.run) }

  -- what the ruling says is so
  pub told : (r : Ruling) (more : List Event) (all : Bool) → more ≡ drop few events → (all ≡ true → length more ≡ 0) → (all ≡ false → 1 ≤ length more) → place ≡ length (records events)
      → Rulings.Tells kept scene (take few events) r → Tells kept scene file (found_of r place all)
  told (FirstFalse number) more all is none some place_is tells = false_found number tells
  told (Genuine house) more true is none some place_is tells = sound_found house (nil_from_length (drop few events) (sym (ap length is) ∙ none refl)) place_is tells
  told (Genuine house) more false is none some place_is tells = many_found house (subst (λ (l : List Event). 1 ≤ length l) is (some refl)) tells
