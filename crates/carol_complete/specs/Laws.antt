-- That words are done where nothing stands against their input.
use Rattle.std.specs.Prelude.{◌≡◌, List, ℕ}
use Rattle.carol_complete.specs.Inputs.{IsAuditInput, IsCheckInput, IsRunInput, IsSceneInput, IsStepInput, scene_in}
use Rattle.carol_event.specs.declared.event.Event.{Event}
use Rattle.carol_history.specs.Results.{AreDone}
use Rattle.carol_meaning.specs.Programs.{rules_of}
use Rattle.carol_program.specs.declared.scenes.Scene.{Scene}
use Rattle.carol_program.specs.Rules.{Rules}
use Rattle.carol_reply.specs.declared.status.Status.TheVariants.{Ok, Full}
use Rattle.carol_reply.specs.Texts.{Answer}
use Rattle.carol_report.specs.Report.{report_text}
use Rattle.carol_words_audit.specs.Audit.{AuditSays}
use Rattle.carol_words_check.specs.Check.{CheckSays}
use Rattle.carol_words_run.specs.Run.{RunSays}
use Rattle.carol_words_step.specs.Step.{StepSays}

abbrev pub ChecksSucceed : Type 0
ChecksSucceed =
    (bytes : List ℕ) (answer : Answer) → IsCheckInput bytes → CheckSays bytes answer → answer.0 ≡ Ok

abbrev pub StepsSucceed : Type 0
StepsSucceed =
    (bytes : List ℕ) (answer : Answer) → IsStepInput bytes → StepSays bytes answer → answer.0 ≡ Ok

abbrev pub AuditsSucceed : Type 0
AuditsSucceed =
    (bytes : List ℕ) (answer : Answer) → IsAuditInput bytes → AuditSays bytes answer → answer.0 ≡ Ok

abbrev pub RunsSucceed : Type 0
RunsSucceed =
    (bytes : List ℕ) (answer : Answer) → IsRunInput bytes → RunSays bytes answer → answer.0 ≡ Ok

-- A history is reported. With every command done the status is that of success, and with one open it
-- is that of a full history.
pub record EndsAsDone (p : Rules) (scene : Scene) (answer : Answer) : Type 0 where
  pub past : List Event
  pub told : answer.1 ≡ report_text p scene past
  pub done : AreDone scene past → answer.0 ≡ Ok
  pub full : ¬ AreDone scene past → answer.0 ≡ Full

abbrev pub RunsEnd : Type 0
RunsEnd =
    (bytes : List ℕ) (answer : Answer) (input : IsSceneInput bytes) → RunSays bytes answer →
    EndsAsDone (rules_of input.file.program) (scene_in input.file.program input.written) answer
