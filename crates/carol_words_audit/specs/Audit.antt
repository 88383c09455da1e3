-- What `audit` means.
use Rattle.std.specs.Prelude.{◌≡◌, ◌⊎◌, ℕ, ◌+◌, ◌==◌, List, ◌++◌, Option, Some, None, codes, decimal, take, drop, count_by}
use Rattle.carol_audit.specs.declared.error.TailError.{TailError}
use Rattle.carol_audit.specs.declared.error.TailError.TheVariants as tail_error
use Rattle.carol_audit.specs.declared.finding.Finding.{Finding}
use Rattle.carol_audit.specs.declared.finding.Finding.TheVariants.{Genuine, FalseEvent, FalseLine}
use Rattle.carol_audit.specs.Findings.{Finds, IsExact, IsReportOf}
use Rattle.carol_audit.specs.Tails.{HasEvents, IsFault}
use Rattle.carol_event.specs.declared.event.Event.{Event}
use Rattle.carol_prepare.specs.Parts.{PartsSay, with_tail}
use Rattle.carol_prepare.specs.Verdicts.{VerdictSays}
use Rattle.carol_program.specs.declared.program.Program.{Program}
use Rattle.carol_program.specs.declared.scenes.Scene.{Scene}
use Rattle.carol_program.specs.Rules.{rules_in}
use Rattle.carol_reading.specs.Kept.{Kept}
use Rattle.carol_reply.specs.declared.line.Line.TheVariants as line
use Rattle.carol_reply.specs.declared.status.Status.TheVariants as status
use Rattle.carol_reply.specs.Meaning.{Meaning}
use Rattle.carol_reply.specs.Texts.{Answer, line_answer, line_feed}
use Rattle.carol_simulation.specs.Upheld.{Upheld}

-- how many line feeds the bytes have
abbrev pub feeds_in : List ℕ → ℕ
feeds_in bytes = count_by (λ byte. byte == 10) bytes

-- the number of the line in which the byte at this offset stands
abbrev pub line_at : List ℕ → ℕ → ℕ
line_at bytes offset = feeds_in (take offset bytes) + 1

-- the answer to what is wrong with a tail's lines of events; want of memory has none
abbrev pub tail_answer : TailError → Option Answer
tail_answer (tail_error.Bad row column) = Some (line_answer (line.BadText row column))
tail_answer tail_error.TooLarge = Some (line_answer line.TooManyEvents)
tail_answer tail_error.NoMemory = None

-- what is told of what was found
abbrev pub finding_answer : Finding → Answer
finding_answer (Genuine count) = (status.Ok, codes "genuine " ++ (decimal count ++ line_feed))
finding_answer (FalseEvent number) =
    (status.FalseTranscript, codes "false event " ++ (decimal number ++ line_feed))
finding_answer (FalseLine number) =
    (status.FalseTranscript, codes "false line " ++ (decimal number ++ line_feed))

-- It is told what is found of the tail: that it is genuine exactly where it is that of the report
-- of a history that the program can make in the scene, of at most 131,072 events.
pub record IsAudited
    (tail : List ℕ) (kept : Kept) (scene : Scene) (answer : Answer) : Type 0 where
  pub finding : Finding
  pub finds : Finds (rules_in kept.program) scene tail finding
  pub exact : IsExact (rules_in kept.program) scene tail finding
  -- up to each event such a history upholds what an accepted program does
  pub upheld : (past : List Event) → IsReportOf (rules_in kept.program) scene tail past
      → (later : ℕ) → Upheld (rules_in kept.program) scene (drop later past)
  pub told : answer ≡ finding_answer finding

-- what is wrong with the lines of events of the tail, which begins with this line, is told
pub record IsToldTail (tail : List ℕ) (first : ℕ) (answer : Answer) : Type 0 where
  pub error : TailError
  pub fault : IsFault tail first error
  pub told : tail_answer error ≡ Some answer

-- the tail has its events, and this is said of the program with it
pub record IsOfTail
    (said : Program → Answer → Type 0) (tail : List ℕ) (program : Program) (answer : Answer)
    : Type 0 where
  pub events : List Event
  pub has : HasEvents tail events
  pub says : said program answer

-- what comes of a program in a scene with this tail, which begins with the line of this number
abbrev pub TailSays : List ℕ → ℕ → Program → Scene → Answer → Type 0
TailSays tail first program scene answer =
    IsToldTail tail first answer
    ⊎ IsOfTail (VerdictSays (λ kept. IsAudited tail kept scene)) tail program answer

-- with the tail at this offset of the bytes
abbrev pub OffsetSays : List ℕ → ℕ → Program → Scene → Answer → Type 0
OffsetSays bytes offset program scene answer =
    TailSays (drop offset bytes) (line_at bytes offset) program scene answer

-- the answer to the bytes
abbrev pub AuditSays : List ℕ → Answer → Type 0
AuditSays bytes answer = PartsSay (codes "audit") with_tail (OffsetSays bytes) bytes answer

abbrev pub audit_meaning : Meaning
audit_meaning = record { says = AuditSays; whole = Unit {0}; unread = ⊥; history = Unit {0} }
