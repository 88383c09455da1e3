-- That reports are those of histories that the program can make.
use Rattle.std.proofs.Common.{◌≡◌, List, sym, ◌∙◌, ap, subst, inl, inr}
use Rattle.std.specs.Prelude.{Option, Some, None}
use Rattle.carol_event.specs.declared.event.Event.{Event}
use Rattle.carol_history.specs.declared.script.BadStatement.{BadStatement}
use Rattle.carol_history.specs.declared.script.Statement.{Statement}
use Rattle.carol_prepare.specs.Named.{IsProgramOf}
use Rattle.carol_prepare.specs.Scenes.{IsReady, IsSceneOf, PlacedSay, SceneSays}
use Rattle.carol_prepare.specs.Verdicts.{VerdictSays}
use Rattle.carol_prepare.proofs.Refusals.{IsOfAccepted, not_accepted}
use Rattle.carol_program.specs.declared.program.Program.{Program}
use Rattle.carol_program.specs.declared.scenes.Scene.{Scene}
use Rattle.carol_program.specs.Rules.{Rules, rules_in}
use Rattle.carol_reading.specs.Kept.{Kept}
use Rattle.carol_reply.specs.declared.status.Status.{Status}
use Rattle.carol_reply.specs.declared.status.Status.TheVariants as status
use Rattle.carol_reply.specs.Texts.{Answer}
use Rattle.carol_report.specs.Report.{report_text}
use Rattle.carol_syntax.specs.declared.scenes.SceneDecl.{SceneDecl}
use Rattle.carol_syntax.specs.Files.{ProgramTree}
use Rattle.carol_words_laws.specs.Reports.{IsGenuine, Reports, RunsAreGenuine, StepsAreGenuine}
use Rattle.carol_words_run.specs.Run.{IsToldRun}
use Rattle.carol_words_step.specs.Step.{IsPlayed, script_answer}

reports_accepted : (said : Status) → Reports said → IsOfAccepted said
reports_accepted status.Ok h = tt
reports_accepted status.Full h = tt
reports_accepted said h = absurd h

-- what is told of an accepted program with such a status is genuine
verdict_genuine : (said : Kept → Answer → Type 0) (tree : ProgramTree) (written : SceneDecl) (program : Program) (scene : Scene) (answer : Answer) → IsProgramOf tree program
    → IsSceneOf program written scene → ((kept : Kept) → IsReady tree written kept scene → said kept answer → IsGenuine tree written answer.1)
    → VerdictSays said program answer → Reports answer.0 → IsGenuine tree written answer.1
verdict_genuine said tree written program scene answer is placed to (inl h) reports =
    absurd (not_accepted h.refused answer h.told (reports_accepted answer.0 reports))
verdict_genuine said tree written program scene answer is placed to (inr h) reports =
    to h.kept (record { program = program; is_program = is; is_scene = placed; is_kept = h.is_kept }) h.says

scene_genuine : (said : Scene → Kept → Answer → Type 0) (tree : ProgramTree) (written : SceneDecl) (program : Program) (answer : Answer) → IsProgramOf tree program
    → ((kept : Kept) (scene : Scene) → IsReady tree written kept scene → said scene kept answer → IsGenuine tree written answer.1)
    → SceneSays (λ scene. VerdictSays (said scene) program) program written answer → Reports answer.0 → IsGenuine tree written answer.1
scene_genuine said tree written program answer is to (inl h) reports = absurd (subst (λ (a : Answer). Reports a.0) h.told reports)
scene_genuine said tree written program answer is to (inr h) reports =
    verdict_genuine (said h.scene) tree written program h.scene answer is h.is_scene (λ kept ready. to kept h.scene ready) h.says reports

placed_genuine : (said : Scene → Kept → Answer → Type 0) (tree : ProgramTree) (written : SceneDecl) (answer : Answer)
    → ((kept : Kept) (scene : Scene) → IsReady tree written kept scene → said scene kept answer → IsGenuine tree written answer.1)
    → PlacedSay (λ program scene. VerdictSays (said scene) program) tree written answer → Reports answer.0 → IsGenuine tree written answer.1
placed_genuine said tree written answer to (inl h) reports = absurd (subst (λ (a : Answer). Reports a.0) h.told reports)
placed_genuine said tree written answer to (inr h) reports = scene_genuine said tree written h.program answer h.is_program to h.says reports

-- the text of a script's history
script_text : (p : Rules) (scene : Scene) (past : List Event) (bad : Option BadStatement) (answer : Answer) → answer ≡ script_answer p scene (record { history = past; bad = bad })
    → Reports answer.0 → answer.1 ≡ report_text p scene past
script_text p scene past None answer told reports = ap (λ (a : Answer). a.1) told
script_text p scene past (Some bad) answer told reports = absurd (subst (λ (a : Answer). Reports a.0) told reports)

played_genuine : (statements : List Statement) (tree : ProgramTree) (written : SceneDecl) (answer : Answer) (kept : Kept) (scene : Scene) → IsReady tree written kept scene
    → Reports answer.0 → IsPlayed statements kept scene answer → IsGenuine tree written answer.1
played_genuine statements tree written answer kept scene ready reports h tail text = (
  h.script.history,
  record {
    kept = kept;
    scene = scene;
    ready = ready;
    report = record {
      run = h.run;
      few = h.few;
      text = sym text ∙ script_text (rules_in kept.program) scene h.script.history h.script.bad answer h.told reports;
    };
  },
)

pub steps_are_genuine : StepsAreGenuine
steps_are_genuine statements tree written answer says reports =
    placed_genuine (λ scene kept. IsPlayed statements kept scene) tree written answer
    (λ kept scene ready h. played_genuine statements tree written answer kept scene ready reports h) says reports

ran_genuine : (tree : ProgramTree) (written : SceneDecl) (answer : Answer) (kept : Kept) (scene : Scene) → IsReady tree written kept scene
    → IsToldRun kept scene answer → IsGenuine tree written answer.1
ran_genuine tree written answer kept scene ready h tail text = (
  h.past,
  record {
    kept = kept;
    scene = scene;
    ready = ready;
    report = record { run = h.run; few = h.few; text = sym text ∙ h.told };
  },
)

pub runs_are_genuine : RunsAreGenuine
runs_are_genuine tree written answer says reports =
    placed_genuine (λ scene kept. IsToldRun kept scene) tree written answer (λ kept scene ready h. ran_genuine tree written answer kept scene ready h) says reports
