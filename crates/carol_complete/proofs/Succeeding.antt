-- That each word is done where nothing stands against its input.
use Rattle.std.proofs.Common.{◌≡◌, ◌<◌, ◌≤◌, List, [], ℕ, length, refl, sym, ◌∙◌, ap, subst, inl, inr, arith}
use Rattle.std.specs.Prelude.{Some, None, codes, drop}
use Rattle.carol_audit.specs.declared.error.TailError.{TailError}
use Rattle.carol_audit.specs.declared.error.TailError.TheVariants as tail_error
use Rattle.carol_audit.specs.declared.finding.Finding.{Finding}
use Rattle.carol_audit.specs.declared.finding.Finding.TheVariants.{Genuine, FalseEvent, FalseLine}
use Rattle.carol_complete.specs.Inputs.{AnyScene, GivesAll, NothingOpen, StaysBelow, scene_in}
use Rattle.carol_complete.specs.Laws.{AuditsSucceed, ChecksSucceed, RunsEnd, RunsSucceed, StepsSucceed}
use Rattle.carol_complete.proofs.Passing.{file_said, input_said, names_said, scene_valid, taken_said, verdict_said}
use Rattle.carol_event.specs.declared.event.Event.{Event}
use Rattle.carol_history.specs.declared.history.TheConstants.{MOST_EVENTS}
use Rattle.carol_history.specs.declared.script.Statement.{Statement}
use Rattle.carol_history.specs.Bounds.{most_events}
use Rattle.carol_history.specs.Laws.{ScriptIsSingle}
use Rattle.carol_history.specs.Results.{AreDone}
use Rattle.carol_history.specs.Scripts.{ComesTo, Scripted}
use Rattle.carol_meaning.specs.Programs.{rules_of}
use Rattle.carol_prepare.specs.Named.{IsProgramOf, NamesSay}
use Rattle.carol_prepare.specs.Parts.{scene_alone, with_script, with_tail}
use Rattle.carol_prepare.specs.Scenes.{PlacedSay, SceneSays}
use Rattle.carol_prepare.specs.Verdicts.{VerdictSays}
use Rattle.carol_prepare.proofs.Settled.{OneOutcome}
use Rattle.carol_program.specs.declared.program.Program.{Program}
use Rattle.carol_program.specs.declared.scenes.Scene.{Scene}
use Rattle.carol_program.specs.Rules.{Rules, rules_in}
use Rattle.carol_program.specs.Scenes.{IsValidScene}
use Rattle.carol_reading.specs.Good.{IsAccepted}
use Rattle.carol_reading.specs.Kept.{Kept}
use Rattle.carol_reply.specs.declared.status.Status.{Status}
use Rattle.carol_reply.specs.declared.status.Status.TheVariants as status
use Rattle.carol_reply.specs.Texts.{Answer}
use Rattle.carol_report.specs.Report.{report_text}
use Rattle.carol_syntax.specs.declared.scenes.SceneDecl.{SceneDecl}
use Rattle.carol_syntax.specs.Files.{ProgramTree}
use Rattle.carol_words_audit.specs.Audit.{IsAudited, OffsetSays, TailSays, finding_answer, line_at, tail_answer}
use Rattle.carol_words_audit.specs.AuditLaws.{ReportsAreFound}
use Rattle.carol_words_check.specs.Check.{IsAccorded}
use Rattle.carol_words_run.specs.Run.{Ended, IsToldRun, SceneRuns}
use Rattle.carol_words_step.specs.Step.{IsPlayed, ScriptSays, script_answer}

-- ---- `check`

pub checks_succeed : OneOutcome → ChecksSucceed
checks_succeed once bytes answer input says =
    let told : NamesSay (VerdictSays IsAccorded) input.file.program answer = file_said once (λ f. NamesSay (VerdictSays IsAccorded) f.program) bytes input.file answer input.read says in
    let named = names_said (VerdictSays IsAccorded) input.file.program answer input.passing.faultless told in
    let kept = verdict_said IsAccorded (rules_of input.file.program) named.0 answer input.passing.accepted input.passing.none_open named.1.rules named.2 in
    ap (λ (a : Answer). a.0) kept.2

-- ---- `step`

-- a script comes to one history in each valid scene
abbrev pub OneScript : Type 0
OneScript = (p : Rules) (scene : Scene) → IsValidScene p scene → ScriptIsSingle p scene

played_whole : (p : Rules) (scene : Scene) (statements : List Statement) (kept : Kept) (answer : Answer) → rules_in kept.program ≡ p → ScriptIsSingle p scene
    → GivesAll p scene statements → IsPlayed statements kept scene answer → answer.0 ≡ status.Ok
played_whole p scene statements kept answer same single all h =
    let comes : ComesTo p scene 1 statements [] h.script = subst (λ (r : Rules). ComesTo r scene 1 statements [] h.script) same h.comes in
    let whole : Scripted = record { history = all.0; bad = None } in
    let is : h.script ≡ whole = single 1 statements [] tt h.script whole comes all.1 in
    ap (λ (a : Answer). a.0) h.told ∙ ap (λ (s : Scripted). (script_answer (rules_in kept.program) scene s).0) is

pub steps_succeed : OneOutcome → OneScript → StepsSucceed
steps_succeed once single bytes answer input says =
    let p : Rules = rules_of input.file.program in
    let scene : Scene = scene_in input.file.program input.written in
    let h = input_said once (codes "step") with_script GivesAll ScriptSays bytes answer input says in
    let kept = verdict_said (λ kept. IsPlayed input.part kept scene) p h.0 answer input.passing.accepted input.passing.none_open h.1.rules h.2 in
    played_whole p scene input.part kept.0 answer kept.1 (single p scene (scene_valid input.file.program input.written input.placed)) input.holds kept.2

-- ---- `run`

ended_done : (scene : Scene) (past : List Event) (ended : Status) → Ended scene past ended → AreDone scene past → ended ≡ status.Ok
ended_done scene past status.Ok h done = refl
ended_done scene past status.Full h done = absurd (h.0 done)
ended_done scene past ended h done = absurd h

ended_full : (scene : Scene) (past : List Event) (ended : Status) → Ended scene past ended → ¬ AreDone scene past → ended ≡ status.Full
ended_full scene past status.Ok h never = absurd (never h)
ended_full scene past status.Full h never = refl
ended_full scene past ended h never = absurd h

ended_below : (scene : Scene) (past : List Event) (ended : Status) → Ended scene past ended → (length past ≡ MOST_EVENTS → ⊥) → ended ≡ status.Ok
ended_below scene past status.Ok h below = refl
ended_below scene past status.Full h below = absurd (below h.1)
ended_below scene past ended h below = absurd h

never_reached : (n bound most : ℕ) → n ≤ bound → bound < most → n ≡ most → ⊥
never_reached n bound most short below is = omega (arith, short, below, is)

pub runs_succeed : OneOutcome → RunsSucceed
runs_succeed once bytes answer input says =
    let p : Rules = rules_of input.file.program in
    let scene : Scene = scene_in input.file.program input.written in
    let h = input_said once (codes "run") scene_alone StaysBelow SceneRuns bytes answer input says in
    let kept = verdict_said (λ kept. IsToldRun kept scene) p h.0 answer input.passing.accepted input.passing.none_open h.1.rules h.2 in
    let short : length kept.2.past ≤ most_events p scene = subst (λ (r : Rules). length kept.2.past ≤ most_events r scene) kept.1 kept.2.short in
    ended_below scene kept.2.past answer.0 kept.2.ended (never_reached (length kept.2.past) (most_events p scene) MOST_EVENTS short input.holds)

pub runs_end : OneOutcome → RunsEnd
runs_end once bytes answer input says =
    let p : Rules = rules_of input.file.program in
    let scene : Scene = scene_in input.file.program input.written in
    let h = input_said once (codes "run") scene_alone AnyScene SceneRuns bytes answer input says in
    let kept = verdict_said (λ kept. IsToldRun kept scene) p h.0 answer input.passing.accepted input.passing.none_open h.1.rules h.2 in
    record {
      past = kept.2.past;
      told = subst (λ (r : Rules). answer.1 ≡ report_text r scene kept.2.past) kept.1 kept.2.told;
      done = ended_done scene kept.2.past answer.0 kept.2.ended;
      full = ended_full scene kept.2.past answer.0 kept.2.ended;
    }

-- ---- `audit`

text_open : status.Text ≡ status.Undecided → ⊥
text_open e = cc

same_answer : (one other : Answer) → Some one ≡ Some other → one ≡ other
same_answer one other e = cc

none_told : (answer : Answer) → None ≡ Some answer → ⊥
none_told answer e = cc

tail_open : (error : TailError) (answer : Answer) → tail_answer error ≡ Some answer → answer.0 ≡ status.Undecided → ⊥
tail_open (tail_error.Bad row column) answer told e = text_open (ap (λ (a : Answer). a.0) (same_answer _ answer told) ∙ e)
tail_open tail_error.TooLarge answer told e = text_open (ap (λ (a : Answer). a.0) (same_answer _ answer told) ∙ e)
tail_open tail_error.NoMemory answer told e = none_told answer told

found_open : (finding : Finding) → (finding_answer finding).0 ≡ status.Undecided → ⊥
found_open (Genuine count) e = (let x : status.Ok ≡ status.Undecided = e in cc)
found_open (FalseEvent number) e = (let x : status.FalseTranscript ≡ status.Undecided = e in cc)
found_open (FalseLine number) e = (let x : status.FalseTranscript ≡ status.Undecided = e in cc)

module _ (tail : List ℕ) (first : ℕ) (tree : ProgramTree) (written : SceneDecl) (answer : Answer) (accepted : IsAccepted (rules_of tree)) (none : NothingOpen (rules_of tree)) where
  tail_decided : (program : Program) (scene : Scene) → IsProgramOf tree program → TailSays tail first program scene answer → answer.0 ≡ status.Undecided → ⊥
  tail_decided program scene is (inl told) e = tail_open told.error answer told.told e
  tail_decided program scene is (inr h) e =
      let kept = verdict_said (λ kept. IsAudited tail kept scene) (rules_of tree) program answer accepted none is.rules h.says in
      found_open kept.2.finding (sym (ap (λ (a : Answer). a.0) kept.2.told) ∙ e)

  scene_decided : (program : Program) → IsProgramOf tree program → SceneSays (TailSays tail first program) program written answer → answer.0 ≡ status.Undecided → ⊥
  scene_decided program is (inl told) e = text_open (sym (ap (λ (a : Answer). a.0) told.told) ∙ e)
  scene_decided program is (inr h) e = tail_decided program h.scene is h.says e

  -- what is told of the tail isn't that the program is undecided
  never_undecided : PlacedSay (TailSays tail first) tree written answer → answer.0 ≡ status.Undecided → ⊥
  never_undecided (inl told) e = text_open (sym (ap (λ (a : Answer). a.0) told.told) ∙ e)
  never_undecided (inr h) e = scene_decided h.program h.is_program h.says e

pub audits_succeed : OneOutcome → ReportsAreFound → AuditsSucceed
audits_succeed once found bytes answer input says =
    let tail : List ℕ = drop input.offset bytes in
    let first : ℕ = line_at bytes input.offset in
    let tree : ProgramTree = input.file.program in
    let ready = input.reported.ready in
    let accepted : IsAccepted (rules_of tree) = subst IsAccepted ready.is_program.rules ready.is_kept.may_be.accepted in
    let placed : PlacedSay (TailSays tail first) tree input.written answer =
    taken_said once (codes "audit") with_tail (OffsetSays bytes) bytes input.file input.written input.offset answer input.read input.taken says in
    ap (λ (a : Answer). a.0) (found tail first tree input.written input.past answer input.reported placed
    (never_undecided tail first tree input.written answer accepted input.none_open placed))
