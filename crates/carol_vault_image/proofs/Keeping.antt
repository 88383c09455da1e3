-- What a file shows once a record was put behind it.
use Rattle.std.proofs.Common.{◌≡◌, ◌⊎◌, ◌≤◌, ℕ, ◌+◌, ◌*◌, List, [], ◌∷◌, ◌++◌, length, take, drop, reverse, refl, sym, ◌∙◌, ap, subst, inl, inr, arith, length-append}
use Rattle.std.proofs.lemmas.List.{take_at, drop_at, reverse-append}
use Rattle.carol_event.specs.declared.event.Event.{Event}
use Rattle.carol_event.specs.Numbers.{Each, HasNumbers}
use Rattle.carol_disk.specs.Gates.{GrowsBy, IsShut}
use Rattle.carol_vault_image.specs.Records.{IsRead, Shows, body_of, record_of, records}
use Rattle.carol_vault_image.proofs.Readings.{each_push, length-records-push, records-push, short_no_record, shut_no_record}
use Rattle.carol_vault_image.proofs.Sizes.{length-record_of, short_line}

-- the file with one record more
pub grown : (events : List Event) (event : Event) → records events ++ 1 ∷ (body_of event ++ 0 ∷ []) ≡ records (events ++ event ∷ []) ++ 0 ∷ []
grown events event = sym (records-push events event (0 ∷ []))

pub shows_more : (file : List ℕ) (events : List Event) (event : Event) → GrowsBy (records events) (body_of event ++ 0 ∷ []) file → Shows file events ⊎ Shows file (events ++ event ∷ [])
shows_more file events event (inl behind) = inl behind
shows_more file events event (inr whole) = inr (inl (0 ∷ [], whole ∙ grown events event, λ one. absurd (omega (arith, one))))

-- a file that is records and a shut gate
pub record Gated (file : List ℕ) (events : List Event) (gate : ℕ) : Type 0 where
  pub front : take gate file ≡ records events
  pub gate_is : gate ≡ length (records events)
  pub long : length file ≡ gate + 1
  pub shut : IsShut (drop gate file)

pub gated_more : (file : List ℕ) (events : List Event) (event : Event) (gate size : ℕ) → file ≡ records events ++ 1 ∷ (body_of event ++ 0 ∷ [])
    → gate ≡ length (records events) → size ≡ length (body_of event ++ 0 ∷ []) → Gated file (events ++ event ∷ []) (gate + size)
gated_more file events event gate size are gate_is size_is =
    let whole : file ≡ records (events ++ event ∷ []) ++ 0 ∷ [] = are ∙ grown events event in
    let place : length (records (events ++ event ∷ [])) ≡ gate + size =
    omega (arith, length-records-push events event, gate_is, size_is, length-append (body_of event) (0 ∷ [])) in
    record {
      front = ap (λ (l : List ℕ). take (gate + size) l) whole ∙ take_at (records (events ++ event ∷ [])) (0 ∷ []) (gate + size) place;
      gate_is = sym place;
      long = omega (arith, ap length whole, length-append (records (events ++ event ∷ [])) (0 ∷ []), place);
      shut = subst IsShut (sym (ap (λ (l : List ℕ). drop (gate + size) l) whole ∙ drop_at (records (events ++ event ∷ [])) (0 ∷ []) (gate + size) place))
          (λ one. absurd (omega (arith, one)));
    }

-- how long records are
pub length-records : (events : List Event) → Each HasNumbers events → length (records events) ≤ 912 * length events
length-records [] fit = omega arith
length-records (event ∷ events) fit =
    omega (arith, length-records events fit.1, short_line event fit.0, length-record_of event, length-append (record_of event) (records events))

pub each-reverse : (events : List Event) → Each HasNumbers events → Each HasNumbers (reverse events)
each-reverse [] fit = tt
each-reverse (event ∷ events) fit =
    subst (Each HasNumbers) (sym (reverse-append (event ∷ []) events)) (each_push (reverse events) event (each-reverse events fit.1) fit.0)

-- what a file shows is read from it
pub shown_reading : (file : List ℕ) (events : List Event) → Each HasNumbers events → Shows file events → (end : List ℕ) × IsRead file events end × (IsShut end ⊎ (length file ≤ 1))
shown_reading file events fit (inl (end, are, shut)) = (end, record { are = are; fit = fit; last = shut_no_record end shut }, inl shut)
shown_reading file [] fit (inr (none, short)) = (file, record { are = refl; fit = fit; last = short_no_record file short }, inr short)
shown_reading file (event ∷ events) fit (inr (none, short)) = absurd (omega (arith, ap length none, length-append (record_of event) (records events)))

-- and what is read so is shown
pub reading_shown : (file : List ℕ) (events : List Event) (end : List ℕ) → IsRead file events end → IsShut end ⊎ (length file ≤ 1) → Shows file events
reading_shown file events end read (inl shut) = inl (end, read.are, shut)
reading_shown file [] end read (inr short) = inr (refl, short)
reading_shown file (event ∷ events) end read (inr short) =
    absurd (omega (arith, ap length read.are, length-append (record_of event ++ records events) end, length-append (record_of event) (records events)))
