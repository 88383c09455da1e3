-- What is reported of a vault that was opened on what a crash left.
use Rattle.std.proofs.Common.{◌≡◌, ◌≤◌, ℕ, List, length, take, sym, ap, subst, ◌∙◌, arith}
use Rattle.std.specs.Prelude.{reverse, Result, IfOk, Vec}
use Rattle.std.specs.declared.alloc.AllocError.{AllocError}
use Rattle.std.specs.declared.alloc.Global.{Global}
use Rattle.std.proofs.lemmas.List.{reverse-reverse}
use Rattle.carol_program.specs.Rules.{rules_in}
use Rattle.carol_program.specs.declared.scenes.Scene.{Scene}
use Rattle.carol_event.specs.declared.event.Event.{Event}
use Rattle.carol_reading.specs.Kept.{Kept}
use Rattle.carol_house.specs.House.{House, IsHistory, rules_of}
use Rattle.carol_report.specs.Report.{report_text}
use Rattle.carol_vault.specs.declared.error.OpenCause.{OpenCause}
use Rattle.carol_vault.specs.Laws.{FindingsAreSingle, ShownIsSound}
use Rattle.carol_vault.specs.Opening.{IsCause, Opens}
use Rattle.carol_vault.specs.Vaults.{events_of}
use Rattle.carol_vault_image.specs.Records.{Shows}
use Rattle.carol_recovery.specs.Counts.{events_kept, history_kept}
use Rattle.carol_recovery.proofs.Fronts.{IsUnsound, ShowsFront, front_events, never_unsound, reverse_front}

kept_within : (stop events : ℕ) → events_kept stop events ≤ events
kept_within stop events = omega arith

module _ (single : FindingsAreSingle) (shown : ShownIsSound) (stop : ℕ) (house : House) (is : IsHistory house) (file : List ℕ)
    (shows : Shows file (take (events_kept stop (length house.history)) (events_of house))) where
  front : ShowsFront (rules_of house) house.scene house.history (events_kept stop (length house.history)) file
  front = record { may = is.may; run = is.run; few = is.few; within = kept_within stop (length house.history); shows = shows }

  -- it is opened, but for a fault or want of memory
  pub left_opens : (why : OpenCause) → IsUnsound why → IsCause (rules_of house) house.scene file why → ⊥
  left_opens = never_unsound single shown (rules_of house) house.scene house.history (events_kept stop (length house.history)) file front

  -- and the report is that of the first events
  pub left_told : (opened now : House) (r : Result (Vec ℕ Global) AllocError) → Opens house.kept house.scene file opened → now ≡ opened
      → IfOk r (λ text. text.items ≡ report_text (rules_of now) now.scene now.history)
      → IfOk r (λ text. text.items ≡ report_text (rules_of house) house.scene (history_kept stop house.history))
  left_told opened now r opens lent told =
      subst (λ (said : List ℕ). IfOk r (λ text. text.items ≡ said))
      (ap (λ (h : House). report_text (rules_of h) h.scene h.history) lent
      ∙ ap (λ (k : Kept). report_text (rules_in k.program) opened.scene opened.history) opens.kept_is
      ∙ ap (λ (s : Scene). report_text (rules_of house) s opened.history) opens.scene_is
      ∙ ap (λ (past : List Event). report_text (rules_of house) house.scene past) history)
      told
    where
      history : opened.history ≡ history_kept stop house.history
      history = sym (reverse-reverse opened.history)
          ∙ ap reverse (front_events single shown (rules_of house) house.scene house.history (events_kept stop (length house.history)) file front (events_of opened) opens.sound)
          ∙ reverse_front (events_kept stop (length house.history)) house.history (kept_within stop (length house.history))
