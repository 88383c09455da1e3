-- That reports which `step` and `run` tell are told genuine.
use Rattle.std.specs.Prelude.{◌≡◌, List, ℕ, ◌++◌}
use Rattle.carol_audit.specs.Findings.{transcript_line}
use Rattle.carol_event.specs.declared.event.Event.{Event}
use Rattle.carol_history.specs.declared.script.Statement.{Statement}
use Rattle.carol_prepare.specs.Scenes.{PlacedSay}
use Rattle.carol_reply.specs.declared.status.Status.{Status}
use Rattle.carol_reply.specs.declared.status.Status.TheVariants as status
use Rattle.carol_reply.specs.Texts.{Answer}
use Rattle.carol_syntax.specs.declared.scenes.SceneDecl.{SceneDecl}
use Rattle.carol_syntax.specs.Files.{ProgramTree}
use Rattle.carol_words_audit.specs.AuditLaws.{IsReported}
use Rattle.carol_words_run.specs.Run.{SceneRuns}
use Rattle.carol_words_step.specs.Step.{ScriptSays}

-- with these statuses a report is told
abbrev pub Reports : Status → Type 0
Reports status.Ok = Unit {0}
Reports status.Full = Unit {0}
Reports said = ⊥

-- the text is a transcript's first line with a tail, which is that of a history's report, behind
-- the same program and scene; so it is told genuine
abbrev pub IsGenuine : ProgramTree → SceneDecl → List ℕ → Type 0
IsGenuine program written text =
    (tail : List ℕ) → text ≡ transcript_line ++ tail →
    (past : List Event) × IsReported tail program written past

-- what `step` reports is
abbrev pub StepsAreGenuine : Type 0
StepsAreGenuine =
    (statements : List Statement) (program : ProgramTree) (written : SceneDecl)
    (answer : Answer) → PlacedSay (ScriptSays statements) program written answer →
    Reports answer.0 → IsGenuine program written answer.1

-- and what `run` reports, whatever the order of the threads' steps
abbrev pub RunsAreGenuine : Type 0
RunsAreGenuine =
    (program : ProgramTree) (written : SceneDecl) (answer : Answer) →
    PlacedSay (SceneRuns tt) program written answer →
    Reports answer.0 → IsGenuine program written answer.1
