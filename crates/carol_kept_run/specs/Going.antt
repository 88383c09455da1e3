-- How a history goes on by a script.
use Rattle.std.specs.Prelude.{◌≡◌, ◌<◌, ◌⊎◌, ℕ, false, List, ◌∷◌, ◌++◌, codes, decimal, length, take, drop, Option, Some, None, Result, Ok, Err}
use Rattle.carol_event.specs.declared.event.Event.{Event}
use Rattle.carol_history.specs.declared.script.Statement.{Statement}
use Rattle.carol_history.specs.Scripts.{Fails, Gives}
use Rattle.carol_house.specs.House.{House, IsHistory, Rests, UpholdsAll, rules_of}
use Rattle.carol_house.specs.Moves.{IsFull}
use Rattle.carol_kept_run.specs.declared.ending.Broken.{Broken}
use Rattle.carol_kept_run.specs.declared.ending.Broken.TheVariants as broken
use Rattle.carol_kept_run.specs.declared.ending.Ending.{Ending}
use Rattle.carol_kept_run.specs.declared.ending.Ending.TheVariants as ending
use Rattle.carol_kept_run.specs.declared.ending.Made.{Made}
use Rattle.carol_kept_run.specs.declared.ending.Made.TheVariants as made
use Rattle.carol_kept_run.specs.Telling.{Tells}
use Rattle.carol_program.specs.declared.scenes.Scene.{Scene}
use Rattle.carol_program.specs.Rules.{Rules, rules_in}
use Rattle.carol_reading.specs.Kept.{Kept}
use Rattle.carol_reply.specs.declared.line.Line.TheVariants as line
use Rattle.carol_reply.specs.declared.status.Status.TheVariants as status
use Rattle.carol_reply.specs.Texts.{Answer, line_answer, line_feed}
use Rattle.carol_report.specs.Plays.{Makes, Plays}
use Rattle.carol_report.specs.Report.{report_text}
use Rattle.carol_vault.specs.declared.error.VaultError.{VaultError}
use Rattle.carol_vault.specs.declared.error.VaultError.TheVariants as vault
use Rattle.carol_vault.specs.declared.error.OpenCause.{OpenCause}
use Rattle.carol_vault.specs.declared.error.OpenCause.TheVariants as cause
use Rattle.carol_vault.specs.Finding.{IsDamaged, IsIllegal}
use Rattle.carol_vault.specs.Opening.{Opens}
use Rattle.carol_vault.specs.Steps.{Falters, Waits}
use Rattle.carol_vault.specs.Vaults.{Vaulted}

-- the statement gives an event
abbrev pub HasEvent : House → Statement → Type 0
HasEvent house line =
    (given : Event) × Gives (rules_of house) house.scene line given house.history

-- its event came, and is acknowledged; or it gives none, for this cause; or the history is full
-- where it gives one
abbrev pub Yields : {D : Type 0} → Vaulted D → Statement → Made → Vaulted D → Type 0
Yields old line made.Event new = Makes old.house line None new.house × (new.closed ≡ false)
Yields old line (made.Silent cause) new =
    Fails old.house.scene line cause old.house.history × (new ≡ old)
Yields old line made.Full new = HasEvent old.house line × IsFull old.house × (new ≡ old)

-- the disk failed while its event was kept, which isn't acknowledged; or there was no memory, and
-- disk and history stay
abbrev pub FailsToYield : {D : Type 0} → Vaulted D → Statement → Broken → Vaulted D → Type 0
FailsToYield old line broken.Disk new =
    (given : Event) × Gives (rules_of old.house) old.house.scene line given old.house.history
    × Falters old given new
FailsToYield old line broken.Sink new = ⊥
FailsToYield old line broken.NoMemory new = HasEvent old.house line × Waits old new

-- what a step comes to that kept no event
abbrev pub failed_as : VaultError → Result Made Broken
failed_as vault.Full = Ok made.Full
failed_as vault.Fault = Err broken.Disk
failed_as vault.Closed = Err broken.Disk
failed_as vault.NoMemory = Err broken.NoMemory

-- the events are those of old with others behind them, the latest first
abbrev pub IsLater : List Event → List Event → Type 0
IsLater old new = (events : List Event) × (new ≡ events ++ old)

-- so many statements were carried out, and the next one gives an event for which there is no room
pub record Fills (old : House) (lines : List Statement) (count : ℕ) (new : House) : Type 0 where
  pub plays : Plays old (take count lines) new None
  pub line : Statement
  pub more : List Statement
  pub next : drop count lines ≡ line ∷ more
  pub gives : HasEvent new line
  pub full : IsFull new

-- how the script ended
abbrev pub Ends : House → List Statement → Ending → House → Type 0
Ends old lines ending.Done new = Plays old lines new None
Ends old lines (ending.Bad bad) new = Plays old lines new (Some bad)
Ends old lines (ending.Full count) new = Fills old lines count new

-- what is told of it at the end: the report of the history, or the first statement that gave no
-- event
abbrev pub ending_answer : Rules → Scene → List Event → Ending → Answer
ending_answer p scene history ending.Done = (status.Ok, report_text p scene history)
ending_answer p scene history (ending.Bad bad) = line_answer (line.BadStatement bad)
ending_answer p scene history (ending.Full count) = (status.Full, report_text p scene history)

-- the script was carried out behind the events of old, and this is told of what it came to
pub record GoesOn (old : House) (lines : List Statement) (new : House) (answer : Answer)
    : Type 0 where
  pub ending : Ending
  pub ends : Ends old lines ending new
  -- each event may come behind those before it, and up to each it upholds what an accepted program
  -- does
  pub history : IsHistory new
  pub upheld : UpholdsAll new
  pub told : answer ≡ ending_answer (rules_of new) new.scene new.history ending

-- that a file keeps no history: the answers
abbrev pub damaged_answer : ℕ → Answer
damaged_answer at = (status.FalseTranscript, codes "damaged " ++ (decimal at ++ line_feed))

abbrev pub illegal_answer : ℕ → Answer
illegal_answer number = (status.FalseTranscript, codes "illegal " ++ (decimal number ++ line_feed))

-- why no vault was opened; a fault of the disk and want of memory have no answer
abbrev pub unopened_answer : OpenCause → Option Answer
unopened_answer cause.Fault = None
unopened_answer (cause.Damaged at) = Some (damaged_answer at)
unopened_answer (cause.Illegal number) = Some (illegal_answer number)
unopened_answer cause.NoMemory = None

-- behind which place the file is damaged
pub record IsToldDamaged (file : List ℕ) (answer : Answer) : Type 0 where
  pub at : ℕ
  pub damaged : IsDamaged file at
  pub told : answer ≡ damaged_answer at

-- which of its events is the first that may not come
pub record IsToldIllegal (kept : Kept) (scene : Scene) (file : List ℕ) (answer : Answer)
    : Type 0 where
  pub number : ℕ
  pub illegal : IsIllegal (rules_in kept.program) scene file number
  pub told : answer ≡ illegal_answer number

-- it keeps a history, which went on by the script; the lines of the events that came were told
pub record IsToldKept (kept : Kept) (scene : Scene) (lines : List Statement) (file : List ℕ)
    (before after : Option (List ℕ)) (answer : Answer) : Type 0 where
  pub old : House
  pub opens : Opens kept scene file old
  pub new : House
  pub goes_on : GoesOn old lines new answer
  pub tells : Tells old.history new.history before after

-- the answer to a file
abbrev pub KeptSays : Kept → Scene → List Statement → List ℕ
    → Option (List ℕ) → Option (List ℕ) → Answer → Type 0
KeptSays kept scene lines file before after answer =
    IsToldDamaged file answer ⊎ IsToldIllegal kept scene file answer
    ⊎ IsToldKept kept scene lines file before after answer
