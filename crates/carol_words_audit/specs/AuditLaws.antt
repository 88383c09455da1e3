-- What holds of the answers of `audit`.
use Rattle.std.specs.Prelude.{◌≡◌, ◌≢◌, ℕ, List, length}
use Rattle.carol_audit.specs.declared.finding.Finding.TheVariants.{Genuine}
use Rattle.carol_audit.specs.Findings.{IsReportOf}
use Rattle.carol_event.specs.declared.event.Event.{Event}
use Rattle.carol_prepare.specs.Scenes.{IsReady, PlacedSay}
use Rattle.carol_program.specs.declared.scenes.Scene.{Scene}
use Rattle.carol_program.specs.Rules.{rules_in}
use Rattle.carol_reading.specs.Kept.{Kept}
use Rattle.carol_reply.specs.declared.status.Status.TheVariants as status
use Rattle.carol_reply.specs.Texts.{Answer}
use Rattle.carol_syntax.specs.declared.scenes.SceneDecl.{SceneDecl}
use Rattle.carol_syntax.specs.Files.{ProgramTree}
use Rattle.carol_words_audit.specs.Audit.{TailSays, finding_answer}

-- the program is accepted, and the tail is that of the report of this history, which it can make in
-- the scene
pub record IsReported
    (tail : List ℕ) (program : ProgramTree) (written : SceneDecl) (past : List Event)
    : Type 0 where
  pub kept : Kept
  pub scene : Scene
  pub ready : IsReady program written kept scene
  pub report : IsReportOf (rules_in kept.program) scene tail past

-- such a tail is told to be genuine, unless the program is told to be undecided
abbrev pub ReportsAreFound : Type 0
ReportsAreFound =
    (tail : List ℕ) (first : ℕ) (program : ProgramTree) (written : SceneDecl)
    (past : List Event) (answer : Answer) → IsReported tail program written past →
    PlacedSay (TailSays tail first) program written answer → answer.0 ≢ status.Undecided →
    answer ≡ finding_answer (Genuine (length past))

-- and no other tail is
abbrev pub FoundAreReports : Type 0
FoundAreReports =
    (tail : List ℕ) (first : ℕ) (program : ProgramTree) (written : SceneDecl)
    (answer : Answer) → PlacedSay (TailSays tail first) program written answer →
    answer.0 ≡ status.Ok → (past : List Event) × IsReported tail program written past
