-- What an audit finds of the tail of a transcript.
use Rattle.std.specs.Prelude.{◌≡◌, ◌≤◌, ℕ, List, [], ◌∷◌, ◌++◌, codes, length, reverse, Option, Some, None}
use Rattle.carol_program.specs.Rules.{Rules}
use Rattle.carol_program.specs.declared.scenes.Scene.{Scene}
use Rattle.carol_event.specs.declared.event.Event.{Event}
use Rattle.carol_history.specs.declared.history.TheConstants.{MOST_EVENTS}
use Rattle.carol_history.specs.Runs.{Run}
use Rattle.carol_house.specs.House.{House, rules_of}
use Rattle.carol_report.specs.Report.{report_text}
use Rattle.carol_audit.specs.declared.ruling.Ruling.{Ruling}
use Rattle.carol_audit.specs.declared.ruling.Ruling.TheVariants as ruling
use Rattle.carol_audit.specs.Rulings.{IsFirstFalse}
use Rattle.carol_audit.specs.Lines.{IsFirstFalseLine}
use Rattle.carol_audit.specs.Tails.{HasEvents}
use Rattle.carol_audit.specs.declared.finding.Finding.{Finding}
use Rattle.carol_audit.specs.declared.finding.Finding.TheVariants.{Genuine, FalseEvent, FalseLine}

-- the first line of a transcript, which the tail stands behind
abbrev pub transcript_line : List ℕ
transcript_line = codes "transcript" ++ 10 ∷ []

-- the tail is that of the report of this history, which the program can make in the scene
pub record IsReportOf
    (p : Rules) (scene : Scene) (tail : List ℕ) (past : List Event) : Type 0 where
  pub run : Run p scene past
  pub few : length past ≤ MOST_EVENTS
  pub text : transcript_line ++ tail ≡ report_text p scene past

-- the transcript's first line and the tail are the house's report, or the line with this number is
-- the first that differs
abbrev pub Compares : House → List ℕ → Option ℕ → Type 0
Compares house tail None =
    transcript_line ++ tail ≡ report_text (rules_of house) house.scene house.history
Compares house tail (Some number) =
    IsFirstFalseLine (report_text (rules_of house) house.scene house.history)
    (transcript_line ++ tail) number

-- what a ruling on so many events comes to with the lines behind them
abbrev pub ComesTo : Ruling → ℕ → List ℕ → Finding → Type 0
ComesTo (ruling.FirstFalse number) events tail finding = finding ≡ FalseEvent number
ComesTo (ruling.Genuine house) events tail (Genuine count) =
    (count ≡ events) × Compares house tail None
ComesTo (ruling.Genuine house) events tail (FalseEvent number) = ⊥
ComesTo (ruling.Genuine house) events tail (FalseLine number) =
    Compares house tail (Some number)

-- the tail is that of the report of a history with this many events; or the event with this number
-- is the first that may not come; or all may, and the line with this number, counted from the
-- transcript's first, is the first that differs from their report's
abbrev pub Finds : Rules → Scene → List ℕ → Finding → Type 0
Finds p scene tail (Genuine count) =
    (past : List Event) × IsReportOf p scene tail past × (count ≡ length past)
Finds p scene tail (FalseEvent number) =
    (events : List Event) × HasEvents tail events × IsFirstFalse p scene events number
Finds p scene tail (FalseLine number) =
    (events : List Event) × HasEvents tail events × Run p scene (reverse events)
    × IsFirstFalseLine (report_text p scene (reverse events)) (transcript_line ++ tail) number

-- of the tail of a report it is found that it is genuine
abbrev pub IsExact : Rules → Scene → List ℕ → Finding → Type 0
IsExact p scene tail found =
    (past : List Event) → IsReportOf p scene tail past → found ≡ Genuine (length past)
