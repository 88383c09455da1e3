-- A vault that is led through a script.
use Rattle.std.proofs.Common.{◌≡◌, ◌⊎◌, ◌≤◌, ◌<◌, ℕ, ◌+◌, ◌-◌, ◌*◌, Bool, false, List, [], ◌∷◌, ◌++◌, length, get_or, take, drop, drop-cons, add-one, refl, sym, ap, subst, ◌∙◌, inl, inr, arith, length-append}
use Rattle.std.specs.Prelude.{Some, reverse, if◌then◌else◌}
use Rattle.std.proofs.lemmas.List.{reverse-reverse}
use Rattle.carol_program.specs.Rules.{Rules, rules_in}
use Rattle.carol_program.specs.declared.scenes.Scene.{Scene}
use Rattle.carol_event.specs.declared.event.Event.{Event}
use Rattle.carol_reading.specs.Kept.{Kept}
use Rattle.carol_history.specs.declared.history.TheConstants.{MOST_EVENTS}
use Rattle.carol_history.specs.declared.script.Statement.{Statement}
use Rattle.carol_history.specs.declared.script.Statement.TheVariants.{Go}
use Rattle.carol_history.specs.Laws.{ScriptIsSingle, ScriptRuns}
use Rattle.carol_history.specs.Runs.{Run}
use Rattle.carol_history.specs.Scripts.{ComesTo, Gives}
use Rattle.carol_house.specs.House.{House, IsHistory, rules_of}
use Rattle.carol_disk.specs.declared.call.Call.{Call}
use Rattle.carol_disk.specs.Tapes.{Tape, kept_after, seen_after, seen_of}
use Rattle.carol_vault.specs.declared.error.OpenCause.{OpenCause}
use Rattle.carol_vault.specs.declared.error.VaultError.TheVariants.{Fault}
use Rattle.carol_vault.specs.Laws.{FindingsAreSingle, ShownIsSound}
use Rattle.carol_vault.specs.Opening.{IsCause, Opens, StandsFor, calls_to_open}
use Rattle.carol_vault.specs.Steps.{FailsToKeep, HasNext}
use Rattle.carol_vault.specs.Vaults.{Vaulted, acknowledged, events_of}
use Rattle.carol_vault_image.specs.Records.{Shows}
use Rattle.carol_recovery.specs.Disks.{GivesTo, KeepsFront, KeepsGiven, Makes}
use Rattle.carol_recovery.proofs.Fronts.{IsUnsound, empty_shows, front_events, front_shows, front_sound, never_unsound}
use Rattle.carol_recovery.proofs.Scripts.{given_line, gives_run, is_front, next_line, whole}

-- The vault has the events of the statements that were carried out, and those that are left come to
-- the rest of the house's history.
pub record Going (stop : ℕ) (house : House) (lines : List Statement) (v : Vaulted Tape) : Type 0 where
  pub kept_is : v.house.kept ≡ house.kept
  pub scene_is : v.house.scene ≡ house.scene
  pub opened : v.closed ≡ false
  pub number : ℕ
  pub comes : ComesTo (rules_of house) house.scene number lines v.house.history (whole house.history)
  pub run : Run (rules_of house) house.scene v.house.history
  pub few : length v.house.history + length lines ≤ MOST_EVENTS
  pub time : length v.disk.past ≡ 5 + 4 * length v.house.history
  pub limit : v.disk.stop ≡ Some stop

-- A disk on which nothing was written, and which stops at the call with this number.
pub record IsNew (stop : ℕ) (disk : Tape) : Type 0 where
  pub first : disk.first ≡ []
  pub past : disk.past ≡ []
  pub limit : disk.stop ≡ Some stop

pub new_disk : (bytes : List ℕ) (stop place : ℕ) (disk : Tape) → disk ≡ record { first = bytes; past = []; stop = Some place; failures = 0; starved = false } → bytes ≡ [] → place ≡ stop → IsNew stop disk
new_disk bytes stop place disk is empty same = record {
  first = ap (λ (d : Tape). d.first) is ∙ empty;
  past = ap (λ (d : Tape). d.past) is;
  limit = ap (λ (d : Tape). d.stop) is ∙ ap Some same;
}

new_seen : (stop : ℕ) (disk : Tape) → IsNew stop disk → seen_of disk ≡ []
new_seen stop disk new = ap (λ (l : List Call). seen_after disk.first l) new.past ∙ new.first

-- what is said of the vault's program and scene is said of the house's
of_house : (P : Rules → Scene → Type 0) (house now : House) → now.kept ≡ house.kept → now.scene ≡ house.scene → P (rules_of now) now.scene → P (rules_of house) house.scene
of_house P house now kept scene h =
    subst (λ (k : Kept). P (rules_in k.program) house.scene) kept (subst (λ (s : Scene). P (rules_of now) s) scene h)

to_house : (P : Rules → Scene → Type 0) (house now : House) → now.kept ≡ house.kept → now.scene ≡ house.scene → P (rules_of house) house.scene → P (rules_of now) now.scene
to_house P house now kept scene h =
    subst (λ (k : Kept). P (rules_in k.program) now.scene) (sym kept) (subst (λ (s : Scene). P (rules_of house) s) (sym scene) h)

-- before the first statement
pub begins : FindingsAreSingle → ShownIsSound → (stop : ℕ) (house : House) (lines : List Statement) (disk : Tape) (v : Vaulted Tape) → IsHistory house
    → Makes house lines house.history → length lines ≤ MOST_EVENTS → IsNew stop disk
    → Opens house.kept house.scene (seen_of disk) v.house → v.closed ≡ false → length v.disk.past ≡ length disk.past + calls_to_open (seen_of disk) → v.disk.stop ≡ disk.stop
    → Going stop house lines v
begins single shown stop house lines disk v is makes few new opens opened time same = record {
  kept_is = opens.kept_is;
  scene_is = opens.scene_is;
  opened = opened;
  number = 1;
  comes = subst (λ (l : List Event). ComesTo (rules_of house) house.scene 1 lines l (whole house.history)) (sym none) makes;
  run = subst (Run (rules_of house) house.scene) (sym none) tt;
  few = omega (arith, few, ap length none);
  time = omega (arith, time, ap length new.past, ap calls_to_open seen, ap length none);
  limit = same ∙ new.limit;
}
  where
    seen : seen_of disk ≡ []
    seen = new_seen stop disk new

    none : v.house.history ≡ []
    none = sym (reverse-reverse v.house.history)
        ∙ ap reverse (front_events single shown (rules_of house) house.scene house.history 0 (seen_of disk) (empty_shows (rules_of house) house.scene house.history (seen_of disk) is.may is.run is.few seen)
        (events_of v.house) opens.sound)

-- a disk on which no vault was opened, since a call failed, keeps nothing
pub keeps_none : FindingsAreSingle → ShownIsSound → (stop : ℕ) (house : House) (disk after : Tape) → IsHistory house → IsNew stop disk
    → (kept_after after.first after.past ≡ kept_after disk.first disk.past) ⊎ StandsFor (rules_of house) house.scene (seen_of disk) (kept_after after.first after.past)
    → length after.past < length disk.past + calls_to_open (seen_of disk) → 1 ≤ after.failures → after.stop ≡ disk.stop → KeepsFront stop house.history after
keeps_none single shown stop house disk after is new kept fewer failed same = record {
  count = 0;
  shows = shows kept;
  counted = inr (omega arith, failed, omega (arith, fewer, ap length new.past, ap calls_to_open seen), inl refl);
  limit = same ∙ new.limit;
}
  where
    seen : seen_of disk ≡ []
    seen = new_seen stop disk new

    was : kept_after disk.first disk.past ≡ []
    was = ap (λ (l : List Call). kept_after disk.first l) new.past ∙ new.first

    shows : (kept_after after.first after.past ≡ kept_after disk.first disk.past) ⊎ StandsFor (rules_of house) house.scene (seen_of disk) (kept_after after.first after.past)
        → Shows (kept_after after.first after.past) (take 0 (reverse house.history))
    shows (inl still) = (empty_shows (rules_of house) house.scene house.history (kept_after after.first after.past) is.may is.run is.few (still ∙ was)).shows
    shows (inr stands) =
        stands (take 0 (reverse house.history))
        (front_sound single shown (rules_of house) house.scene house.history 0 (seen_of disk) (empty_shows (rules_of house) house.scene house.history (seen_of disk) is.may is.run is.few seen))

-- and the vault is opened, but for a fault or want of memory
pub new_opens : FindingsAreSingle → ShownIsSound → (stop : ℕ) (house : House) (disk : Tape) (why : OpenCause) → IsHistory house → IsNew stop disk
    → IsCause (rules_of house) house.scene (seen_of disk) why → IsUnsound why → ⊥
new_opens single shown stop house disk why is new caused unsound =
    never_unsound single shown (rules_of house) house.scene house.history 0 (seen_of disk)
    (empty_shows (rules_of house) house.scene house.history (seen_of disk) is.may is.run is.few (new_seen stop disk new)) why unsound caused

module _ (stop : ℕ) (house : House) where
  -- the statement at this place is the next one
  pub going_at : (lines : List Statement) (place : ℕ) (v : Vaulted Tape) → place < length lines → Going stop house (drop place lines) v
      → Going stop house (get_or lines place (Go 0) ∷ drop (place + 1) lines) v
  going_at lines place v inside h =
      let here : drop place lines ≡ get_or lines place (Go 0) ∷ drop (place + 1) lines = rw add-one (drop-cons lines place (Go 0) inside) in
      subst (λ (l : List Statement). Going stop house l v) here h

  -- the next statement gives an event
  pub has_next : (line : Statement) (lines : List Statement) (v : Vaulted Tape) → Going stop house (line ∷ lines) v → HasNext (GivesTo v.house line)
  has_next line lines v h =
      let next = next_line (rules_of house) house.scene v.house.history h.number line lines house.history h.comes in
      (next.0, to_house (λ p scene. Gives p scene line next.0 v.house.history) house v.house h.kept_is h.scene_is next.1)

  -- which was kept
  pub keeps_on : ScriptIsSingle (rules_of house) house.scene → ScriptRuns (rules_of house) house.scene → (line : Statement) (lines : List Statement) (v w : Vaulted Tape)
      → Going stop house (line ∷ lines) v → KeepsGiven v line w → length w.disk.past + 4 * length v.house.history ≡ length v.disk.past + 4 * length w.house.history
      → w.disk.stop ≡ v.disk.stop → Going stop house lines w
  keeps_on once runs line lines v w h (event, gives, keeps) time same = record {
    kept_is = keeps.enters.over.kept ∙ h.kept_is;
    scene_is = keeps.enters.over.scene ∙ h.scene_is;
    opened = keeps.stays_open;
    number = h.number + 1;
    comes = subst (λ (l : List Event). ComesTo (rules_of house) house.scene (h.number + 1) lines l (whole house.history)) (sym keeps.enters.history)
        (given_line (rules_of house) house.scene v.house.history once h.run h.number line lines house.history event h.comes given);
    run = subst (Run (rules_of house) house.scene) (sym keeps.enters.history) (gives_run (rules_of house) house.scene v.house.history runs h.run line event given);
    few = omega (arith, h.few, ap length keeps.enters.history);
    time = omega (arith, time, h.time, ap length keeps.enters.history);
    limit = same ∙ h.limit;
  }
    where
      given : Gives (rules_of house) house.scene line event v.house.history
      given = of_house (λ p scene. Gives p scene line event v.house.history) house v.house h.kept_is h.scene_is gives

  -- or those before the one at which a call failed
  pub keeps_some : ScriptIsSingle (rules_of house) house.scene → (line : Statement) (lines : List Statement) (v w : Vaulted Tape) → Going stop house (line ∷ lines) v
      → FailsToKeep (GivesTo v.house line) v Fault w → (length v.disk.past ≤ length w.disk.past) × (length w.disk.past < length v.disk.past + 4) → 1 ≤ w.disk.failures
      → w.disk.stop ≡ v.disk.stop → Shows (kept_after w.disk.first w.disk.past) (take (acknowledged w) (events_of w.house)) → KeepsFront stop house.history w.disk
  keeps_some once line lines v w h (opened, (event, gives, falters)) (later, earlier) failed same shows = record {
    count = acknowledged w;
    shows = front_shows (kept_after w.disk.first w.disk.past) house.history front.0 w.house.history (acknowledged w) split (omega (arith, all, more)) shows;
    counted = inr (omega (arith, all, within), failed, omega (arith, all, earlier, h.time), inr (omega (arith, all, later, h.time)));
    limit = same ∙ h.limit;
  }
    where
      given : Gives (rules_of house) house.scene line event v.house.history
      given = of_house (λ p scene. Gives p scene line event v.house.history) house v.house h.kept_is h.scene_is gives

      front : (more : List Event) × (house.history ≡ more ++ (event ∷ v.house.history))
      front = is_front (rules_of house) house.scene (h.number + 1) lines (event ∷ v.house.history) (whole house.history)
          (given_line (rules_of house) house.scene v.house.history once h.run h.number line lines house.history event h.comes given)

      split : house.history ≡ front.0 ++ w.house.history
      split = front.1 ∙ ap (λ (l : List Event). front.0 ++ l) (sym falters.enters.history)

      more : length w.house.history ≡ length v.house.history + 1
      more = omega (arith, ap length falters.enters.history)

      within : length v.house.history ≤ length house.history
      within = omega (arith, ap length split, length-append front.0 w.house.history, more)

      all : acknowledged w ≡ length v.house.history
      all = ap (λ (b : Bool). length w.house.history - (if b then 1 else 0)) falters.closes ∙ omega (arith, more)
