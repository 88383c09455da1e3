-- The tail of a report is read as the history's events, and is found genuine.
use Rattle.std.proofs.Common.{◌≡◌, ℕ, List, [], ◌∷◌, ◌++◌, length, drop, refl, sym, ◌∙◌, ap, append_assoc, arith}
use Rattle.std.specs.Prelude.{reverse, slice_get, Result, Ok, Err, IfOk}
use Rattle.std.proofs.lemmas.List.{length-reverse, reverse-append, reverse-reverse}
use Rattle.carol_program.specs.Accords.{Accords}
use Rattle.carol_program.specs.Rules.{Rules, rules_in}
use Rattle.carol_program.specs.Scenes.{IsValidScene}
use Rattle.carol_program.specs.declared.program.Program.{Program}
use Rattle.carol_program.specs.declared.scenes.Scene.{Scene}
use Rattle.carol_reading.specs.Kept.{MayBeKept}
use Rattle.carol_event.specs.declared.event.Event.{Event}
use Rattle.carol_event.specs.Numbers.{Each, HasNumbers}
use Rattle.carol_history.specs.Legal.{Legal}
use Rattle.carol_history.specs.Runs.{Run}
use Rattle.carol_audit.specs.Fitting.{NumbersFit}
use Rattle.carol_simulation.specs.Upheld.{MayRun}
use Rattle.carol_report.specs.Report.{report_text, summary_text}
use Rattle.carol_audit.specs.Rulings.{IsFirstFalse}
use Rattle.carol_audit.specs.Lines.{lines}
use Rattle.carol_audit.specs.Tails.{HasEvents, IsResultsFirst}
use Rattle.carol_audit.proofs.Fronts.{one_reading}
use Rattle.carol_audit.specs.declared.finding.Finding.{Finding}
use Rattle.carol_audit.specs.declared.finding.Finding.TheVariants.{Genuine, FalseEvent, FalseLine}
use Rattle.carol_audit.specs.Findings.{Finds, IsReportOf, transcript_line}
use Rattle.carol_audit.specs.Laws.{ReportsAreGenuine, ReportsAreRead, ReportsAreSingle}
use Rattle.carol_audit.proofs.Comparing.{behind, report_is}

-- ---- the events of a report

each_push : (events : List Event) (event : Event) → Each HasNumbers events → HasNumbers event → Each HasNumbers (events ++ event ∷ [])
each_push [] event h k = (k, tt)
each_push (e ∷ events) event h k = (h.0, each_push events event h.1 k)

each_reverse : (events : List Event) → Each HasNumbers events → Each HasNumbers (reverse events)
each_reverse [] h = tt
each_reverse (e ∷ events) h = rw (reverse-append (e ∷ []) events) (each_push (reverse events) e (each_reverse events h.1) h.0)

results_first : (p : Rules) (scene : Scene) (past : List Event) → IsResultsFirst (summary_text p scene past)
unfolding summary_text
results_first p scene past = (_, refl)

pub reports_are_read : NumbersFit → ReportsAreRead
reports_are_read fit p scene tail past may report =
    let whole : transcript_line ++ tail ≡ transcript_line ++ behind p scene past = report.text ∙ report_is p scene past
    in record {
      rest = summary_text p scene past;
      front = record {
        are = ap (drop 11) whole;
        fit = each_reverse past (fit p scene past may report.run report.few);
        few = omega (arith, length-reverse past, report.few);
      };
      results = results_first p scene past;
    }

back : (one other : List Event) → reverse one ≡ reverse other → one ≡ other
back one other same = sym (reverse-reverse one) ∙ ap reverse same ∙ reverse-reverse other

pub reports_are_single : NumbersFit → ReportsAreSingle
reports_are_single fit p scene tail past other may one also =
    back past other (one_reading tail (reverse past) (reverse other) (reports_are_read fit p scene tail past may one) (reports_are_read fit p scene tail other may also))

-- ---- what an audit finds of it

-- each event of a run might come where it did
pub legal_within : (p : Rules) (scene : Scene) (later : List Event) (event : Event) (past : List Event) → Run p scene (later ++ event ∷ past) → Legal p scene event past
legal_within p scene [] event past run = run.0
legal_within p scene (e ∷ later) event past run = legal_within p scene later event past run.1

pub none_false : (p : Rules) (scene : Scene) (past : List Event) (number : ℕ) → Run p scene past → IsFirstFalse p scene (reverse past) number → ⊥
none_false p scene past number run first =
    let parts : past ≡ reverse (first.event ∷ first.after) ++ reverse first.before = sym (reverse-reverse past) ∙ ap reverse first.are ∙ reverse-append first.before (first.event ∷ first.after)
    in let split : reverse (first.event ∷ first.after) ++ reverse first.before ≡ reverse first.after ++ first.event ∷ reverse first.before =
    ap (λ (t : List Event). t ++ reverse first.before) (reverse-append (first.event ∷ []) first.after) ∙ append_assoc (reverse first.after) (first.event ∷ []) (reverse first.before)
    in first.illegal (legal_within p scene (reverse first.after) first.event (reverse first.before) (rw (parts ∙ split) at run))

events_are : NumbersFit → (p : Rules) (scene : Scene) (tail : List ℕ) (past events : List Event) → MayRun p scene → IsReportOf p scene tail past → HasEvents tail events → events ≡ reverse past
events_are fit p scene tail past events may report has = one_reading tail events (reverse past) has (reports_are_read fit p scene tail past may report)

pub reports_are_genuine : NumbersFit → ReportsAreGenuine
reports_are_genuine fit p scene tail past (Genuine count) may report (other, also, counted) =
    let same : past ≡ other = reports_are_single fit p scene tail past other may report also
    in rw (counted, ← same) refl
reports_are_genuine fit p scene tail past (FalseEvent number) may report (events, has, first) =
    absurd (none_false p scene past number report.run (rw (events_are fit p scene tail past events may report has) at first))
reports_are_genuine fit p scene tail past (FalseLine number) may report (events, has, run, line) =
    let same : reverse events ≡ past = ap reverse (events_are fit p scene tail past events may report has) ∙ reverse-reverse past
    in absurd (line.differ (ap (λ (t : List ℕ). slice_get (lines t) line.before) (ap (report_text p scene) same ∙ sym report.text)))

-- so it is where an audit answers
pub only_genuine : ReportsAreGenuine → {E : Type 0} (program : Program) (accords : Accords) (scene : Scene) (tail : List ℕ) (r : Result Finding E) → MayBeKept program accords → IsValidScene (rules_in program) scene → IfOk r (Finds (rules_in program) scene tail)
    → (past : List Event) → IsReportOf (rules_in program) scene tail past → IfOk r (λ found. found ≡ Genuine (length past))
only_genuine law program accords scene tail (Ok found) kept valid finds past report =
    law (rules_in program) scene tail past found (record { rules = kept.well_formed.rules; accepted = kept.accepted; valid = valid }) report finds
only_genuine law program accords scene tail (Err e) kept valid finds past report = tt
