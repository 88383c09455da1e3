-- What a disk keeps while an event is put behind the others.
use Rattle.std.proofs.Common.{◌≡◌, ◌≤◌, ℕ, ◌+◌, ◌-◌, Bool, true, false, List, [], ◌∷◌, ◌++◌, length, take, drop, sym, ◌∙◌, ap, subst, inl, ⊎_elim, arith, take-append-drop}
use Rattle.std.specs.Prelude.{reverse, Result, Ok, Err, OnOk, OnErr}
use Rattle.std.proofs.lemmas.List.{length-reverse, reverse-append, take_all, take_at}
use Rattle.carol_event.specs.declared.event.Event.{Event}
use Rattle.carol_event.specs.Numbers.{Each, HasNumbers}
use Rattle.carol_audit.specs.Fitting.{NumbersFit}
use Rattle.carol_house.specs.House.{House, Enters, IsHistory, rules_of}
use Rattle.carol_disk.specs.Disk.{Only}
use Rattle.carol_disk.specs.Gates.{EndsBehind, GrowsBy}
use Rattle.carol_vault_image.specs.Records.{Shows, body_of, records}
use Rattle.carol_vault_image.proofs.Keeping.{Gated, each-reverse, gated_more, length-records, shows_more}
use Rattle.carol_vault.specs.States.{IsVault}
use Rattle.carol_vault.specs.Vaults.{Holds, IsKept, IsReady, events_of}

pub length-events_of : (house : House) → length (events_of house) ≡ length house.history
length-events_of house = length-reverse house.history

-- one event more
pub events_more : (old new : House) (event : Event) → Enters old event new → events_of new ≡ events_of old ++ event ∷ []
events_more old new event enters = ap reverse enters.history ∙ reverse-append (event ∷ []) old.history

-- a file that shows the whole history
pub holds_all : (house : House) (c : List ℕ) → Shows c (events_of house) → Holds (length house.history) house c
holds_all house c shows = record {
  count = length house.history;
  enough = omega arith;
  within = omega arith;
  shows = subst (Shows c) (sym (take_all (length house.history) (events_of house) (omega (arith, length-events_of house)))) shows;
}

-- a file with the event or without it
pub holds_more : (old new : House) (event : Event) (c : List ℕ) → Enters old event new → GrowsBy (records (events_of old)) (body_of event ++ 0 ∷ []) c → Holds (length old.history) new c
holds_more old new event c enters grows = ⊎_elim without with_it (shows_more c (events_of old) event grows)
  where
    more : events_of new ≡ events_of old ++ event ∷ []
    more = events_more old new event enters

    long : length new.history ≡ length old.history + 1
    long = omega (arith, ap length enters.history)

    without : Shows c (events_of old) → Holds (length old.history) new c
    without shows = record {
      count = length old.history;
      enough = omega arith;
      within = omega (arith, long);
      shows = subst (Shows c) (sym (ap (λ (l : List Event). take (length old.history) l) more ∙ take_at (events_of old) (event ∷ []) (length old.history) (length-events_of old))) shows;
    }

    with_it : Shows c (events_of old ++ event ∷ []) → Holds (length old.history) new c
    with_it shows = record {
      count = length new.history;
      enough = omega (arith, long);
      within = omega arith;
      shows = subst (Shows c) (sym (take_all (length new.history) (events_of new) (omega (arith, length-events_of new)) ∙ more)) shows;
    }

-- with other room the history is the same
pub holds_same : (least : ℕ) (old new : House) (c : List ℕ) → new.history ≡ old.history → Holds least old c → Holds least new c
holds_same least old new c same h = record {
  count = h.count;
  enough = h.enough;
  within = omega (arith, h.within, ap length same);
  shows = subst (λ (l : List Event). Shows c (take h.count (reverse l))) (sym same) h.shows;
}

module _ {D : Type 0} (seen kept : D → List ℕ) (may_leave : D → List ℕ → Type 0) where
  pub kept_same : (least : ℕ) (disk : D) (old new : House) → new.history ≡ old.history → IsKept kept may_leave least disk old → IsKept kept may_leave least disk new
  kept_same least disk old new same h = record {
    crash = λ c left. holds_same least old new c same (h.crash c left);
    kept_shows = subst (λ (l : List Event). Shows (kept disk) (take least (reverse l))) (sym same) h.kept_shows;
  }

  pub ready_same : (disk : D) (old new : House) (gate : ℕ) → new.history ≡ old.history → IsReady seen kept may_leave disk old gate → IsReady seen kept may_leave disk new gate
  ready_same disk old new gate same h = record {
    front = h.front ∙ ap (λ (l : List Event). records (reverse l)) (sym same);
    gate_is = h.gate_is ∙ ap (λ (l : List Event). length (records (reverse l))) (sym same);
    long = h.long;
    shut = h.shut;
    durable = h.durable;
    kept_is = h.kept_is;
  }

  -- a disk that is ready shows its history
  pub ready_shows : (disk : D) (house : House) (gate : ℕ) → IsReady seen kept may_leave disk house gate → Shows (seen disk) (events_of house)
  ready_shows disk house gate ready =
      inl (drop gate (seen disk), sym (take-append-drop gate (seen disk)) ∙ ap (λ (l : List ℕ). l ++ drop gate (seen disk)) ready.front, ready.shut)

  -- and keeps it
  pub ready_keeps : (disk : D) (house : House) (gate : ℕ) → IsReady seen kept may_leave disk house gate → IsKept kept may_leave (length house.history) disk house
  ready_keeps disk house gate ready =
      let shows = ready_shows disk house gate ready in
      record {
        crash = λ c left. holds_all house c (subst (λ (l : List ℕ). Shows l (events_of house)) (sym (ready.durable c left)) shows);
        kept_shows = subst (λ (l : List ℕ). Shows l (take (length house.history) (events_of house))) (sym ready.kept_is)
            (subst (Shows (seen disk)) (sym (take_all (length house.history) (events_of house) (omega (arith, length-events_of house)))) shows);
      }

  -- what may be left while a record is put behind a ready disk's
  pub holds_grown : (disk : D) (old new : House) (gate : ℕ) (event : Event) (body c : List ℕ) → IsReady seen kept may_leave disk old gate → body ≡ body_of event ++ 0 ∷ []
      → Enters old event new → GrowsBy (take gate (seen disk)) body c → Holds (length old.history) new c
  holds_grown disk old new gate event body c ready is enters grows =
      holds_more old new event c enters
      (subst (λ (l : List ℕ). GrowsBy (records (events_of old)) l c) is (subst (λ (l : List ℕ). GrowsBy l body c) ready.front grows))

  -- behind which the disk is ready again, where it was written
  pub ready_more : {T E : Type 0} (disk after : D) (old new : House) (gate : ℕ) (event : Event) (body : List ℕ) (r : Result T E) → IsReady seen kept may_leave disk old gate → body ≡ body_of event ++ 0 ∷ []
      → Enters old event new → OnOk r (seen after ≡ take gate (seen disk) ++ 1 ∷ body) → OnOk r (Only (seen after) (may_leave after)) → OnOk r (kept after ≡ seen after)
      → OnOk r (IsReady seen kept may_leave after new (gate + length body))
  ready_more disk after old new gate event body (Err e) ready is enters written durable same = tt
  ready_more disk after old new gate event body (Ok x) ready is enters written durable same =
      let file : seen after ≡ records (events_of old) ++ 1 ∷ (body_of event ++ 0 ∷ []) =
      written ∙ ap (λ (l : List ℕ). l ++ 1 ∷ body) ready.front ∙ ap (λ (l : List ℕ). records (events_of old) ++ 1 ∷ l) is in
      let gated : Gated (seen after) (events_of old ++ event ∷ []) (gate + length body) =
      gated_more (seen after) (events_of old) event gate (length body) file ready.gate_is (ap length is) in
      let more : events_of new ≡ events_of old ++ event ∷ [] = events_more old new event enters in
      record {
        front = gated.front ∙ ap records (sym more);
        gate_is = gated.gate_is ∙ ap (λ (l : List Event). length (records l)) (sym more);
        long = gated.long;
        shut = gated.shut;
        durable = durable;
        kept_is = same;
      }

  -- and which leaves the history kept, where it was not
  pub kept_failed : {T E : Type 0} (disk after : D) (old new : House) (gate : ℕ) (event : Event) (r : Result T E) → IsReady seen kept may_leave disk old gate → Enters old event new
      → OnErr r (EndsBehind (take gate (seen disk)) (kept after)) → ((c : List ℕ) → may_leave after c → Holds (length old.history) new c) → OnErr r (IsKept kept may_leave (length old.history) after new)
  kept_failed disk after old new gate event (Ok x) ready enters unkept left = tt
  kept_failed disk after old new gate event (Err e) ready enters unkept left =
      let front : take (length old.history) (events_of new) ≡ events_of old =
      ap (λ (l : List Event). take (length old.history) l) (events_more old new event enters) ∙ take_at (events_of old) (event ∷ []) (length old.history) (length-events_of old) in
      record {
        crash = left;
        kept_shows = subst (Shows (kept after)) (sym front) (subst (λ (l : List ℕ). EndsBehind l (kept after)) ready.front unkept);
      }

  -- a vault whose disk is ready is one
  pub vault_open : (disk : D) (house : House) (closed : Bool) (gate : ℕ) → closed ≡ false → IsReady seen kept may_leave disk house gate
      → IsVault seen kept may_leave (record { disk = disk; house = house; closed = closed }) gate
  vault_open disk house true gate is_open ready = absurd (clash is_open)
    where
      clash : true ≡ false → ⊥
      clash e = cc
  vault_open disk house false gate is_open ready =
      let all : length house.history ≡ length house.history - 0 = omega arith in
      record {
        keeps = subst (λ (n : ℕ). IsKept kept may_leave n disk house) all (ready_keeps disk house gate ready);
        ready = λ _. ready;
      }

-- the records of a history have room on a disk
pub gate_small : NumbersFit → (old new : House) (gate : ℕ) → IsHistory new → new.history ≡ old.history → gate ≡ length (records (events_of old)) → gate ≤ 119537664
gate_small fit old new gate is same gate_is =
    let numbers : Each HasNumbers (events_of old) = subst (λ (l : List Event). Each HasNumbers (reverse l)) same (each-reverse new.history (fit (rules_of new) new.scene new.history is.may is.run is.few)) in
    omega (arith, gate_is, length-records (events_of old) numbers, length-events_of old, ap length same, is.few)
