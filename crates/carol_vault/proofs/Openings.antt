-- What is left while a vault is opened.
use Rattle.std.proofs.Common.{◌≡◌, ◌⊎◌, ◌≤◌, ℕ, List, ◌++◌, length, take, drop, sym, ◌∙◌, ap, subst, inl, inr, take-append-drop}
use Rattle.std.specs.Prelude.{reverse, Result, Ok, Err, OnOk, OnErr}
use Rattle.std.proofs.lemmas.List.{reverse-reverse, take_at}
use Rattle.carol_program.specs.Rules.{Rules, rules_in}
use Rattle.carol_program.specs.declared.scenes.Scene.{Scene}
use Rattle.carol_event.specs.declared.event.Event.{Event}
use Rattle.carol_reading.specs.Kept.{Kept}
use Rattle.carol_house.specs.House.{House}
use Rattle.carol_disk.specs.Disk.{Elapses, LeavesOnly, Only}
use Rattle.carol_disk.specs.Gates.{EndsBehind, IsShut}
use Rattle.carol_disk.proofs.Moments.{goes_on, started, then, weaker}
use Rattle.carol_vault_image.specs.Records.{IsRead, Shows, records}
use Rattle.carol_vault_image.proofs.Keeping.{reading_shown}
use Rattle.carol_vault_image.proofs.Readings.{one_reading}
use Rattle.carol_vault.specs.Finding.{Holds, IsSound}
use Rattle.carol_vault.specs.Opening.{StandsFor}
use Rattle.carol_vault.specs.Vaults.{events_of}

-- the records stand in front of the gate
pub front_of : (file : List ℕ) (events : List Event) (end : List ℕ) (gate : ℕ) → IsRead file events end → gate ≡ length (records events) → take gate file ≡ records events
front_of file events end gate read place = ap (λ (l : List ℕ). take gate l) read.are ∙ take_at (records events) end gate (sym place)

-- what was at the last sync is what was before, or shows the events
pub kept_either : {T E : Type 0} (file after was now : List ℕ) (events : List Event) (gate : ℕ) (r : Result T E) → take gate file ≡ records events
    → OnOk r (take gate after ≡ take gate file) → OnOk r (IsShut (drop gate after)) → OnOk r (now ≡ after) → OnErr r ((now ≡ was) ⊎ EndsBehind (take gate file) now)
    → (now ≡ was) ⊎ Shows now events
kept_either file after was now events gate (Ok x) front same shut kept unkept =
    inr (subst (λ (l : List ℕ). Shows l events) (sym kept) (inl (drop gate after, sym (take-append-drop gate after) ∙ ap (λ (l : List ℕ). l ++ drop gate after) (same ∙ front), shut)))
kept_either file after was now events gate (Err e) front same shut kept (inl old) = inl old
kept_either file after was now events gate (Err e) front same shut kept (inr behind) = inr (subst (λ (l : List ℕ). EndsBehind l now) front behind)

-- the file stands for itself
pub stands_itself : (p : Rules) (scene : Scene) (file : List ℕ) → StandsFor p scene file file
stands_itself p scene file events sound = reading_shown file events sound.end sound.read sound.closed

-- and what shows its events stands for it
pub stands_shown : (p : Rules) (scene : Scene) (file c : List ℕ) (events : List Event) → IsSound p scene file events → Shows c events → StandsFor p scene file c
stands_shown p scene file c events sound shows others also =
    subst (Shows c) (one_reading file events others sound.end also.end sound.read also.read).0 shows

-- the events of the house are those of the file
pub held_sound : (accepted : Kept) (scene : Scene) (bytes file : List ℕ) (house : House) (place : ℕ) → bytes ≡ file → Holds accepted scene bytes house place → IsSound (rules_in accepted.program) scene file (events_of house)
held_sound accepted scene bytes file house place same held =
    let events : held.events ≡ events_of house = sym (reverse-reverse held.events) ∙ ap reverse (sym held.genuine.history) in
    subst (λ (l : List ℕ). IsSound (rules_in accepted.program) scene l (events_of house)) same
    (subst (λ (l : List Event). IsSound (rules_in accepted.program) scene bytes l) events held.sound)

-- what was at the last sync stands for the file, or was there before
pub ends_kept : (was mid now : List ℕ) (accepted : Kept) (scene : Scene) (file : List ℕ) (house : House) (place : ℕ) (bytes : List ℕ) → bytes ≡ file → Holds accepted scene bytes house place
    → mid ≡ was → (now ≡ mid) ⊎ Shows now (events_of house) → (now ≡ was) ⊎ StandsFor (rules_in accepted.program) scene file now
ends_kept was mid now accepted scene file house place bytes same held before (inl is) = inl (is ∙ before)
ends_kept was mid now accepted scene file house place bytes same held before (inr shows) =
    inr (stands_shown (rules_in accepted.program) scene file now (events_of house) (held_sound accepted scene bytes file house place same held) shows)

module _ {D : Type 0} (moment : D → ℕ) (left_since : D → ℕ → List ℕ → Type 0) where
  -- a disk that was only read stands for itself
  pub stays : (old new : D) (p : Rules) (scene : Scene) (file : List ℕ) (may_leave : List ℕ → Type 0) → Only file may_leave → LeavesOnly moment left_since old new may_leave
      → LeavesOnly moment left_since old new (StandsFor p scene file)
  stays old new p scene file may_leave only run =
      weaker moment left_since old new may_leave (StandsFor p scene file) (λ c left. subst (StandsFor p scene file) (sym (only c left)) (stands_itself p scene file)) run

  -- and so does one that was ended then
  pub ends_well : (old mid new : D) (accepted : Kept) (scene : Scene) (file : List ℕ) (may_leave : List ℕ → Type 0) (house : House) (place : ℕ) (bytes : List ℕ) → bytes ≡ file
      → Holds accepted scene bytes house place → Only file may_leave → LeavesOnly moment left_since old mid may_leave → LeavesOnly moment left_since mid new (λ c. Shows c (events_of house))
      → LeavesOnly moment left_since old new (StandsFor (rules_in accepted.program) scene file)
  ends_well old mid new accepted scene file may_leave house place bytes same held only first second =
      let p = rules_in accepted.program in
      let sound = held_sound accepted scene bytes file house place same held in
      then moment left_since old mid new (StandsFor p scene file) (stays old mid p scene file may_leave only first)
      (weaker moment left_since mid new (λ c. Shows c (events_of house)) (StandsFor p scene file) (λ c shows. stands_shown p scene file c (events_of house) sound shows) second)

  -- a sync leaves what might be left before it
  pub begun : (old mid : D) (may_old may_mid stands : List ℕ → Type 0) → ((c : List ℕ) → left_since old (moment old) c → may_old c) → moment old ≤ moment mid
      → Elapses (moment old) (left_since old) (left_since mid) may_mid → ((c : List ℕ) → may_mid c → may_old c) → LeavesOnly moment left_since old mid (λ c. may_old c ⊎ stands c)
  begun old mid may_old may_mid stands here later time crash =
      goes_on moment left_since old old mid (λ c. may_old c ⊎ stands c) may_mid (started moment left_since old (λ c. may_old c ⊎ stands c) (λ c left. inl (here c left))) later time (λ c now. inl (crash c now))

  -- and then the file is ended
  pub goes_well : (old mid new : D) (may_old stands : List ℕ → Type 0) → LeavesOnly moment left_since old mid (λ c. may_old c ⊎ stands c) → LeavesOnly moment left_since mid new stands
      → LeavesOnly moment left_since old new (λ c. may_old c ⊎ stands c)
  goes_well old mid new may_old stands first second =
      then moment left_since old mid new (λ c. may_old c ⊎ stands c) first (weaker moment left_since mid new stands (λ c. may_old c ⊎ stands c) (λ c left. inr left) second)

-- what was read at the last sync stands for the file
pub synced_kept : (p : Rules) (scene : Scene) (file mid now was : List ℕ) → mid ≡ file → (now ≡ mid) ⊎ StandsFor p scene file now → (now ≡ was) ⊎ StandsFor p scene file now
synced_kept p scene file mid now was same (inl is) = inr (subst (StandsFor p scene file) (sym (is ∙ same)) (stands_itself p scene file))
synced_kept p scene file mid now was same (inr stands) = inr stands
