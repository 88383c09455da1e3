-- An audit finds one thing of a tail.
use Rattle.std.proofs.Common.{◌≡◌, ◌⊎◌, ℕ, zero, suc, ◌+◌, ◌<◌, List, [], ◌∷◌, ◌++◌, length, take, refl, sym, ◌∙◌, ap, append_assoc, inl, inr, arith}
use Rattle.std.specs.Prelude.{reverse, slice_get}
use Rattle.std.proofs.lemmas.Bool.{cases_order}
use Rattle.std.proofs.lemmas.List.{reverse-append, reverse-reverse}
use Rattle.carol_program.specs.Rules.{Rules}
use Rattle.carol_program.specs.declared.scenes.Scene.{Scene}
use Rattle.carol_event.specs.declared.event.Event.{Event}
use Rattle.carol_history.specs.Legal.{Legal}
use Rattle.carol_history.specs.Runs.{Run}
use Rattle.carol_audit.specs.Rulings.{IsFirstFalse}
use Rattle.carol_audit.specs.Lines.{IsFirstFalseLine, lines}
use Rattle.carol_audit.proofs.Fronts.{one_reading}
use Rattle.carol_report.specs.Report.{report_text}
use Rattle.carol_audit.specs.declared.finding.Finding.TheVariants.{Genuine, FalseEvent, FalseLine}
use Rattle.carol_audit.specs.Findings.{transcript_line}
use Rattle.carol_audit.specs.Laws.{FindingsAreSingle}
use Rattle.carol_audit.proofs.Single.{legal_within, none_false}

-- ---- the first false event

-- the second list goes on behind the first, with the event that stands there
abbrev Further : List Event → Event → List Event → Type 0
Further one event other = (middle : List Event) × (other ≡ one ++ event ∷ middle)

-- where a list is cut before an event twice
cuts : (one other : List Event) (event second : Event) (after behind : List Event) → one ++ event ∷ after ≡ other ++ second ∷ behind
    → (one ≡ other) ⊎ (Further one event other ⊎ Further other second one)
cuts [] [] event second after behind same = inl refl
cuts [] (e ∷ other) event second after behind same = inr (inl (other, cc))
cuts (e ∷ one) [] event second after behind same = inr (inr (one, cc))
cuts (e ∷ one) (f ∷ other) event second after behind same = elim (cuts one other event second after behind cc) [
  | inl h ↦ inl cc
  | inr (inl h) ↦ inr (inl (h.0, cc))
  | inr (inr h) ↦ inr (inr (h.0, cc))
]

-- an event that stands before the first false one might come
legal_before : (p : Rules) (scene : Scene) (one other : List Event) (event : Event) → Run p scene (reverse other) → Further one event other
    → Legal p scene event (reverse one)
legal_before p scene one other event run (middle, are) =
    let split : reverse other ≡ reverse middle ++ event ∷ reverse one =
    ap reverse are ∙ reverse-append one (event ∷ middle) ∙ ap (λ (t : List Event). t ++ reverse one) (reverse-append (event ∷ []) middle) ∙ append_assoc (reverse middle) (event ∷ []) (reverse one)
    in legal_within p scene (reverse middle) event (reverse one) (rw split at run)

pub one_event : (p : Rules) (scene : Scene) (events : List Event) (number second : ℕ) → IsFirstFalse p scene events number → IsFirstFalse p scene events second
    → number ≡ second
one_event p scene events number second h g = elim (cuts h.before g.before h.event g.event h.after g.after (sym h.are ∙ g.are)) [
  | inl same ↦ h.counted ∙ ap (λ (t : List Event). length t + 1) same ∙ sym g.counted
  | inr (inl far) ↦ absurd (h.illegal (legal_before p scene h.before g.before h.event g.run far))
  | inr (inr far) ↦ absurd (g.illegal (legal_before p scene g.before h.before g.event h.run far))
]

-- ---- the first false line

slice_get-take : {A : Type 0} (n : ℕ) (xs : List A) (i : ℕ) → i < n → slice_get (take n xs) i ≡ slice_get xs i
slice_get-take zero xs i h = absurd (omega arith)
slice_get-take (suc n) [] i h = refl
slice_get-take (suc n) (x ∷ xs) zero h = refl
slice_get-take (suc n) (x ∷ xs) (suc i) h = slice_get-take n xs i (omega arith)

-- a line that stands before the first false one is the same
same_before : (right text : List ℕ) (number second : ℕ) (h : IsFirstFalseLine right text number) (g : IsFirstFalseLine right text second) → h.before < g.before → ⊥
same_before right text number second h g less =
    h.differ (sym (slice_get-take g.before (lines right) h.before less) ∙ ap (λ (t : List (List ℕ)). slice_get t h.before) g.same ∙ slice_get-take g.before (lines text) h.before less)

one_line : (right text : List ℕ) (number second : ℕ) → IsFirstFalseLine right text number → IsFirstFalseLine right text second → number ≡ second
one_line right text number second h g = elim (cases_order h.before g.before) [
  | inl same ↦ omega (arith, h.counted, g.counted, same)
  | inr (inl less) ↦ absurd (same_before right text number second h g less)
  | inr (inr less) ↦ absurd (same_before right text second number g h less)
]

-- ---- findings

pub findings_are_single : FindingsAreSingle
findings_are_single p scene tail (Genuine count) other (past, report, counted) exact g exactly = ap Genuine counted ∙ sym (exactly past report)
findings_are_single p scene tail one (Genuine count) h exact (past, report, counted) exactly = exact past report ∙ ap Genuine (sym counted)
findings_are_single p scene tail (FalseEvent number) (FalseEvent second) (events, has, first) exact (others, read, later) exactly =
    ap FalseEvent (one_event p scene events number second first (rw (one_reading tail others events read has) at later))
findings_are_single p scene tail (FalseEvent number) (FalseLine line) (events, has, first) exact (others, read, run, wrong) exactly =
    let same : events ≡ reverse (reverse others) = one_reading tail events others has read ∙ sym (reverse-reverse others)
    in absurd (none_false p scene (reverse others) number run (rw same at first))
findings_are_single p scene tail (FalseLine line) (FalseEvent number) (others, read, run, wrong) exact (events, has, first) exactly =
    let same : events ≡ reverse (reverse others) = one_reading tail events others has read ∙ sym (reverse-reverse others)
    in absurd (none_false p scene (reverse others) number run (rw same at first))
findings_are_single p scene tail (FalseLine line) (FalseLine second) (events, has, run, wrong) exact (others, read, ran, differs) exactly =
    let same : others ≡ events = one_reading tail others events read has
    in ap FalseLine (one_line (report_text p scene (reverse events)) (transcript_line ++ tail) line second wrong (rw same at differs))
