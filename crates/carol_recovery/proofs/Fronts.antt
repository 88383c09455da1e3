-- Fronts of a history, and what is found of a file that shows one.
use Rattle.std.proofs.Common.{◌≡◌, ◌⊎◌, ◌≤◌, ℕ, zero, suc, ◌-◌, List, [], ◌∷◌, ◌++◌, length, take, drop, refl, sym, ap, subst, ◌∙◌, inl, inr, arith, length-drop, length-take, take-append-drop}
use Rattle.std.specs.Prelude.{reverse}
use Rattle.std.proofs.lemmas.List.{length-reverse, reverse-append, reverse-reverse, take_at, take-append-le}
use Rattle.carol_program.specs.Rules.{Rules}
use Rattle.carol_program.specs.declared.scenes.Scene.{Scene}
use Rattle.carol_event.specs.declared.event.Event.{Event}
use Rattle.carol_history.specs.declared.history.TheConstants.{MOST_EVENTS}
use Rattle.carol_history.specs.Runs.{Run}
use Rattle.carol_simulation.specs.Upheld.{MayRun}
use Rattle.carol_vault.specs.declared.error.OpenCause.{OpenCause}
use Rattle.carol_vault.specs.declared.error.OpenCause.TheVariants as cause
use Rattle.carol_vault.specs.Finding.{IsSound, Sound, Damaged, Illegal}
use Rattle.carol_vault.specs.Laws.{FindingsAreSingle, ShownIsSound}
use Rattle.carol_vault.specs.Opening.{IsCause}
use Rattle.carol_vault_image.specs.Records.{Shows}

-- a front of a part of the history is a front of the whole
pub front_shows : (file : List ℕ) (all more past : List Event) (count : ℕ) → all ≡ more ++ past → count ≤ length past → Shows file (take count (reverse past)) → Shows file (take count (reverse all))
front_shows file all more past count split few shows = subst (Shows file) (sym same) shows
  where
    same : take count (reverse all) ≡ take count (reverse past)
    same = ap (λ (l : List Event). take count (reverse l)) split
        ∙ ap (λ (l : List Event). take count l) (reverse-append more past)
        ∙ take-append-le count (reverse past) (reverse more) (omega (arith, few, length-reverse past))

run_front : (p : Rules) (scene : Scene) (n : ℕ) (past : List Event) → Run p scene past → Run p scene (drop n past)
run_front p scene zero past run = run
run_front p scene (suc n) [] run = tt
run_front p scene (suc n) (event ∷ past) (legal, run) = run_front p scene n past run

-- the history of the first events
pub reverse_front : (n : ℕ) (past : List Event) → n ≤ length past → reverse (take n (reverse past)) ≡ drop (length past - n) past
reverse_front n past within = ap reverse front ∙ reverse-reverse (drop left past)
  where
    left : ℕ
    left = length past - n

    long : left ≡ length past - n → length (drop left past) ≡ n
    long is = omega (arith, is, length-drop left past, within)

    front : take n (reverse past) ≡ reverse (drop left past)
    front = ap (λ (l : List Event). take n (reverse l)) (sym (take-append-drop left past))
        ∙ ap (λ (l : List Event). take n l) (reverse-append (take left past) (drop left past))
        ∙ take_at (reverse (drop left past)) (reverse (take left past)) n (length-reverse (drop left past) ∙ long refl)

same_sound : (one other : List Event) → Sound one ≡ Sound other → one ≡ other
same_sound one other e = cc

damaged_sound : (at : ℕ) (events : List Event) → Damaged at ≡ Sound events → ⊥
damaged_sound at events e = cc

illegal_sound : (number : ℕ) (events : List Event) → Illegal number ≡ Sound events → ⊥
illegal_sound number events e = cc

-- the file is said to be damaged, or to have an event that may not come
abbrev pub IsUnsound : OpenCause → Type 0
IsUnsound why = ((at : ℕ) × (why ≡ cause.Damaged at)) ⊎ ((number : ℕ) × (why ≡ cause.Illegal number))

-- A history that the program can make, and a file that shows the first events of it.
pub record ShowsFront (p : Rules) (scene : Scene) (past : List Event) (n : ℕ) (file : List ℕ) : Type 0 where
  pub may : MayRun p scene
  pub run : Run p scene past
  pub few : length past ≤ MOST_EVENTS
  pub within : n ≤ length past
  pub shows : Shows file (take n (reverse past))

module _ (single : FindingsAreSingle) (shown : ShownIsSound) (p : Rules) (scene : Scene) (past : List Event) (n : ℕ) (file : List ℕ) (h : ShowsFront p scene past n file) where
  -- it keeps these events
  pub front_sound : IsSound p scene file (take n (reverse past))
  front_sound =
      shown p scene file (take n (reverse past)) h.may
      (subst (Run p scene) (sym (reverse_front n past h.within)) (run_front p scene (length past - n) past h.run))
      (omega (arith, length-take n (reverse past), length-reverse past, h.few)) h.shows

  -- and no others
  pub front_events : (events : List Event) → IsSound p scene file events → events ≡ take n (reverse past)
  front_events events sound = same_sound events (take n (reverse past)) (single p scene file (Sound events) (Sound (take n (reverse past))) sound front_sound)

  -- so it is opened, but for a fault or want of memory
  pub never_unsound : (why : OpenCause) → IsUnsound why → IsCause p scene file why → ⊥
  never_unsound why (inl (at, is)) damaged =
      damaged_sound at (take n (reverse past))
      (single p scene file (Damaged at) (Sound (take n (reverse past))) (subst (IsCause p scene file) is damaged) front_sound)
  never_unsound why (inr (number, is)) illegal =
      illegal_sound number (take n (reverse past))
      (single p scene file (Illegal number) (Sound (take n (reverse past))) (subst (IsCause p scene file) is illegal) front_sound)

-- an empty file shows none of it
pub empty_shows : (p : Rules) (scene : Scene) (past : List Event) (file : List ℕ) → MayRun p scene → Run p scene past → length past ≤ MOST_EVENTS → file ≡ [] → ShowsFront p scene past 0 file
empty_shows p scene past file may run few empty = record {
  may = may;
  run = run;
  few = few;
  within = omega arith;
  shows = subst (λ (c : List ℕ). Shows c (take 0 (reverse past))) (sym empty) (inr (refl, omega arith));
}
