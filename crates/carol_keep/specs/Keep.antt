-- What `keep K` means.
use Rattle.std.specs.Prelude.{◌≡◌, ◌≤◌, ℕ, List, [], Some, None, codes, drop, length}
use Rattle.carol_history.specs.declared.history.TheConstants.{MOST_EVENTS}
use Rattle.carol_history.specs.declared.script.Statement.{Statement}
use Rattle.carol_history.specs.Runs.{Run}
use Rattle.carol_history.specs.Scripts.{ComesTo, Scripted}
use Rattle.carol_prepare.specs.Parts.{PartsSay, with_script}
use Rattle.carol_prepare.specs.Verdicts.{VerdictSays}
use Rattle.carol_program.specs.declared.program.Program.{Program}
use Rattle.carol_program.specs.declared.scenes.Scene.{Scene}
use Rattle.carol_program.specs.Rules.{Rules, rules_in}
use Rattle.carol_reading.specs.Kept.{Kept}
use Rattle.carol_recovery.specs.Counts.{history_kept}
use Rattle.carol_reply.specs.declared.line.Line.TheVariants as line
use Rattle.carol_reply.specs.declared.status.Status.TheVariants as status
use Rattle.carol_reply.specs.Meaning.{Meaning}
use Rattle.carol_reply.specs.Texts.{Answer, line_answer}
use Rattle.carol_report.specs.Report.{report_text}
use Rattle.carol_simulation.specs.Upheld.{Upheld}

-- where a script came to this: the report of what is read back of its history, or its first
-- statement that gives no event
abbrev pub keep_answer : ℕ → Rules → Scene → Scripted → Answer
keep_answer stop p scene script = elim script.bad [
  | None ↦ (status.Ok, report_text p scene (history_kept stop script.history))
  | Some bad ↦ line_answer (line.BadStatement bad)
]

-- it is told what is read back of what the script comes to, from no events
pub record IsKept
    (stop : ℕ) (statements : List Statement) (kept : Kept) (scene : Scene) (answer : Answer)
    : Type 0 where
  pub script : Scripted
  pub comes : ComesTo (rules_in kept.program) scene 1 statements [] script
  -- each event may come behind those before it
  pub run : Run (rules_in kept.program) scene script.history
  pub few : length script.history ≤ MOST_EVENTS
  -- up to each event it upholds what an accepted program does
  pub upheld : (later : ℕ) → Upheld (rules_in kept.program) scene (drop later script.history)
  pub told : answer ≡ keep_answer stop (rules_in kept.program) scene script

-- the answer to a program in a scene with these statements
abbrev pub ScriptKeeps : ℕ → List Statement → Program → Scene → Answer → Type 0
ScriptKeeps stop statements program scene answer =
    VerdictSays (λ kept. IsKept stop statements kept scene) program answer

-- the answer to the bytes
abbrev pub KeepSays : ℕ → List ℕ → Answer → Type 0
KeepSays stop bytes answer = PartsSay (codes "keep") with_script (ScriptKeeps stop) bytes answer

abbrev pub keep_meaning : ℕ → Meaning
keep_meaning stop =
    record { says = KeepSays stop; whole = Unit {0}; unread = ⊥; history = Unit {0} }
