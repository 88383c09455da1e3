-- A tail against a report without its first line.
use Rattle.std.proofs.Common.{◌≡◌, ℕ, suc, ◌+◌, ◌≤◌, List, ◌∷◌, ◌++◌, length, drop, refl, sym, ◌∙◌, ap, length-append, arith}
use Rattle.std.specs.Prelude.{flat_map, reverse}
use Rattle.carol_program.specs.Rules.{Rules}
use Rattle.carol_program.specs.declared.scenes.Scene.{Scene}
use Rattle.carol_event.specs.declared.event.Event.{Event}
use Rattle.carol_event.specs.Texts.{event_line}
use Rattle.carol_report.specs.Report.{report_text, summary_text}
use Rattle.carol_audit.specs.Lines.{IsFirstFalseLine}
use Rattle.carol_audit.specs.Findings.{transcript_line}

-- what stands behind the first line of a report
abbrev pub behind : Rules → Scene → List Event → List ℕ
behind p scene past = flat_map event_line (reverse past) ++ summary_text p scene past

pub report_is : (p : Rules) (scene : Scene) (past : List Event) → report_text p scene past ≡ transcript_line ++ behind p scene past
unfolding report_text
report_is p scene past = refl

pub behind_is : (p : Rules) (scene : Scene) (past : List Event) → drop 11 (report_text p scene past) ≡ behind p scene past
behind_is p scene past = ap (drop 11) (report_is p scene past)

pub report_long : (p : Rules) (scene : Scene) (past : List Event) → 11 ≤ length (report_text p scene past)
report_long p scene past = rw report_is (omega (arith, length-append transcript_line (behind p scene past)))

-- the line `transcript` in front of both texts
one_more : (right text : List ℕ) (number : ℕ) → IsFirstFalseLine right text number → IsFirstFalseLine (transcript_line ++ right) (transcript_line ++ text) (number + 1)
one_more right text number h = record {
  before = suc h.before;
  counted = omega (arith, h.counted);
  same = ap (λ (L : List (List ℕ)). transcript_line ∷ L) h.same;
  differ = h.differ;
}

pub same_report : (p : Rules) (scene : Scene) (past : List Event) (rest tail : List ℕ) → rest ≡ drop 11 (report_text p scene past) → rest ≡ tail → transcript_line ++ tail ≡ report_text p scene past
same_report p scene past rest tail is same = ap (λ (t : List ℕ). transcript_line ++ t) (sym same ∙ is ∙ behind_is p scene past) ∙ sym (report_is p scene past)

pub false_in_report : (p : Rules) (scene : Scene) (past : List Event) (rest tail : List ℕ) (number : ℕ) → rest ≡ drop 11 (report_text p scene past) → IsFirstFalseLine rest tail number → IsFirstFalseLine (report_text p scene past) (transcript_line ++ tail) (number + 1)
false_in_report p scene past rest tail number is h =
    rw report_is (one_more (behind p scene past) tail number (rw (is, behind_is) at h))
