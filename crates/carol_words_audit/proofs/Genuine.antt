-- That the tails of reports are told to be genuine, and no others.
use Rattle.std.proofs.Common.{◌≡◌, ◌≢◌, ℕ, List, length, refl, sym, ◌∙◌, ap, subst, inl, inr}
use Rattle.std.specs.Prelude.{Some, reverse}
use Rattle.carol_audit.specs.declared.error.TailError.{TailError}
use Rattle.carol_audit.specs.declared.error.TailError.TheVariants as tail_error
use Rattle.carol_audit.specs.declared.finding.Finding.{Finding}
use Rattle.carol_audit.specs.declared.finding.Finding.TheVariants.{Genuine, FalseEvent, FalseLine}
use Rattle.carol_audit.specs.Findings.{Finds}
use Rattle.carol_audit.specs.Laws.{ReportsAreRead, ReportsAreSingle}
use Rattle.carol_event.specs.declared.event.Event.{Event}
use Rattle.carol_prepare.specs.Named.{IsProgramOf, name_line}
use Rattle.carol_prepare.specs.Scenes.{IsReady, IsSceneOf, PlacedSay, SceneSays}
use Rattle.carol_prepare.specs.Verdicts.{VerdictSays}
use Rattle.carol_prepare.proofs.Refusals.{IsOfAccepted, not_accepted}
use Rattle.carol_prepare.proofs.Settled.{placed_agree, scene_valid}
use Rattle.carol_program.specs.declared.program.Program.{Program}
use Rattle.carol_program.specs.declared.scenes.Scene.{Scene}
use Rattle.carol_program.specs.Rules.{Rules, rules_in}
use Rattle.carol_reading.specs.Kept.{Kept}
use Rattle.carol_reply.specs.declared.line.Line.{Line}
use Rattle.carol_reply.specs.declared.line.Line.TheVariants as line
use Rattle.carol_reply.specs.declared.status.Status.{Status}
use Rattle.carol_reply.specs.declared.status.Status.TheVariants as status
use Rattle.carol_reply.specs.Meaning.{Agree, FixesStatus}
use Rattle.carol_reply.specs.Texts.{Answer, line_answer}
use Rattle.carol_simulation.specs.Upheld.{MayRun, RunsUphold}
use Rattle.carol_syntax.specs.declared.scenes.SceneDecl.{SceneDecl}
use Rattle.carol_syntax.specs.Files.{ProgramTree}
use Rattle.carol_words_audit.specs.Audit.{IsAudited, TailSays, finding_answer, tail_answer}
use Rattle.carol_words_audit.specs.AuditLaws.{FoundAreReports, IsReported, ReportsAreFound}
use Rattle.carol_words_audit.proofs.Audited.{TailLaws, tails_agree, upheld_at}

-- ---- reports are genuine

may_run : (tree : ProgramTree) (written : SceneDecl) (kept : Kept) (scene : Scene) → IsReady tree written kept scene → MayRun (rules_in kept.program) scene
may_run tree written kept scene ready =
    let same : ready.program ≡ kept.program = sym ready.is_kept.same in
    subst (λ (p : Program). MayRun (rules_in p) scene) same (record {
      rules = ready.is_kept.may_be.well_formed.rules;
      accepted = ready.is_kept.may_be.accepted;
      valid = scene_valid ready.program written scene ready.is_scene;
    })

-- such a tail may be told to be genuine
told_genuine : RunsUphold → ReportsAreRead → ReportsAreSingle → (tail : List ℕ) (first : ℕ) (tree : ProgramTree) (written : SceneDecl) (past : List Event)
    → IsReported tail tree written past → PlacedSay (TailSays tail first) tree written (finding_answer (Genuine (length past)))
told_genuine law read single tail first tree written past h =
    let p : Rules = rules_in h.kept.program in
    let may : MayRun p h.scene = may_run tree written h.kept h.scene h.ready in
    inr (record {
      program = h.ready.program;
      is_program = h.ready.is_program;
      says = inr (record {
        scene = h.scene;
        is_scene = h.ready.is_scene;
        says = inr (record {
          events = reverse past;
          has = read p h.scene tail past may h.report;
          says = inr (record {
            kept = h.kept;
            is_kept = h.ready.is_kept;
            says = record {
              finding = Genuine (length past);
              finds = (past, h.report, refl);
              exact = λ other report. ap (λ (t : List Event). Genuine (length t)) (single p h.scene tail past other may h.report report);
              upheld = λ other report later. upheld_at law p h.scene other may report.run report.few later;
              told = refl;
            };
          });
        });
      });
    })

fixed : (said : Status) → said ≢ status.Undecided → FixesStatus (Unit {0}) said
fixed status.Undecided h = absurd (h refl)
fixed said h = tt

same_answer : (one other : Answer) → one.0 ≡ other.0 → one.1 ≡ other.1 → one ≡ other
same_answer (one, text) (other, said) e f = ap (λ s. (s, text)) e ∙ ap (λ t. (other, t)) f

pub reports_are_found : RunsUphold → TailLaws → ReportsAreRead → ReportsAreSingle → ReportsAreFound
reports_are_found law laws read single tail first tree written past answer h says decided =
    let agree : Agree (Unit {0}) answer (finding_answer (Genuine (length past))) =
    placed_agree (Unit {0}) (TailSays tail first) (λ one two alike scene valid. tails_agree laws tail first one two alike scene) tree written
    answer (finding_answer (Genuine (length past))) says (told_genuine law read single tail first tree written past h) in
    let state = agree.status (fixed answer.0 decided) tt in
    same_answer answer (finding_answer (Genuine (length past))) state (agree.text tt state)

-- ---- no others are

line_not_ok : (said : Line) (answer : Answer) → answer ≡ line_answer said → answer.0 ≡ status.Ok → ⊥
line_not_ok (line.BadStatement bad) answer told ok = (let x : status.Script ≡ status.Ok = sym (ap (λ a. a.0) told) ∙ ok in cc)
line_not_ok said answer told ok = (let x : status.Text ≡ status.Ok = sym (ap (λ a. a.0) told) ∙ ok in cc)

tail_not_ok : (error : TailError) (answer : Answer) → tail_answer error ≡ Some answer → answer.0 ≡ status.Ok → ⊥
tail_not_ok (tail_error.Bad row column) answer told ok = line_not_ok (line.BadText row column) answer (let x : Some (line_answer (line.BadText row column)) ≡ Some answer = told in cc) ok
tail_not_ok tail_error.TooLarge answer told ok = line_not_ok line.TooManyEvents answer (let x : Some (line_answer line.TooManyEvents) ≡ Some answer = told in cc) ok
tail_not_ok tail_error.NoMemory answer told ok = cc

found_report : (tail : List ℕ) (tree : ProgramTree) (written : SceneDecl) (kept : Kept) (scene : Scene) → IsReady tree written kept scene → (finding : Finding)
    → Finds (rules_in kept.program) scene tail finding → (finding_answer finding).0 ≡ status.Ok → (past : List Event) × IsReported tail tree written past
found_report tail tree written kept scene ready (Genuine count) (past, report, counted) ok = (past, record { kept = kept; scene = scene; ready = ready; report = report })
found_report tail tree written kept scene ready (FalseEvent number) finds ok = absurd (let x : status.FalseTranscript ≡ status.Ok = ok in cc)
found_report tail tree written kept scene ready (FalseLine number) finds ok = absurd (let x : status.FalseTranscript ≡ status.Ok = ok in cc)

verdict_report : (tail : List ℕ) (tree : ProgramTree) (written : SceneDecl) (program : Program) (scene : Scene) (answer : Answer) → IsProgramOf tree program
    → IsSceneOf program written scene → VerdictSays (λ kept. IsAudited tail kept scene) program answer → answer.0 ≡ status.Ok
    → (past : List Event) × IsReported tail tree written past
verdict_report tail tree written program scene answer is placed (inl h) ok = absurd (not_accepted h.refused answer h.told (subst IsOfAccepted (sym ok) tt))
verdict_report tail tree written program scene answer is placed (inr h) ok =
    found_report tail tree written h.kept scene (record { program = program; is_program = is; is_scene = placed; is_kept = h.is_kept }) h.says.finding h.says.finds
    (sym (ap (λ a. a.0) h.says.told) ∙ ok)

tail_report : (tail : List ℕ) (first : ℕ) (tree : ProgramTree) (written : SceneDecl) (program : Program) (scene : Scene) (answer : Answer) → IsProgramOf tree program
    → IsSceneOf program written scene → TailSays tail first program scene answer → answer.0 ≡ status.Ok → (past : List Event) × IsReported tail tree written past
tail_report tail first tree written program scene answer is placed (inl h) ok = absurd (tail_not_ok h.error answer h.told ok)
tail_report tail first tree written program scene answer is placed (inr h) ok = verdict_report tail tree written program scene answer is placed h.says ok

scene_report : (tail : List ℕ) (first : ℕ) (tree : ProgramTree) (written : SceneDecl) (program : Program) (answer : Answer) → IsProgramOf tree program
    → SceneSays (TailSays tail first program) program written answer → answer.0 ≡ status.Ok → (past : List Event) × IsReported tail tree written past
scene_report tail first tree written program answer is (inl h) ok = absurd (line_not_ok (line.BadScene h.bad) answer h.told ok)
scene_report tail first tree written program answer is (inr h) ok = tail_report tail first tree written program h.scene answer is h.is_scene h.says ok

pub found_are_reports : FoundAreReports
found_are_reports tail first tree written answer (inl h) ok = absurd (line_not_ok (name_line h.bad) answer h.told ok)
found_are_reports tail first tree written answer (inr h) ok = scene_report tail first tree written h.program answer h.is_program h.says ok
