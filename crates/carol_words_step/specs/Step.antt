-- What `step` means.
use Rattle.std.specs.Prelude.{◌≡◌, ◌≤◌, List, ℕ, [], Some, None, codes, drop, length}
use Rattle.carol_history.specs.declared.history.TheConstants.{MOST_EVENTS}
use Rattle.carol_history.specs.declared.script.Statement.{Statement}
use Rattle.carol_history.specs.Runs.{Run}
use Rattle.carol_history.specs.Scripts.{ComesTo, Scripted}
use Rattle.carol_prepare.specs.Parts.{PartsSay, with_script}
use Rattle.carol_prepare.specs.Verdicts.{VerdictSays}
use Rattle.carol_program.specs.declared.program.Program.{Program}
use Rattle.carol_program.specs.declared.scenes.Scene.{Scene}
use Rattle.carol_program.specs.Rules.{Rules, rules_in}
use Rattle.carol_reading.specs.Kept.{Kept}
use Rattle.carol_reply.specs.declared.line.Line.TheVariants as line
use Rattle.carol_reply.specs.declared.status.Status.TheVariants as status
use Rattle.carol_reply.specs.Meaning.{Meaning}
use Rattle.carol_reply.specs.Texts.{Answer, line_answer}
use Rattle.carol_report.specs.Report.{report_text}
use Rattle.carol_simulation.specs.Upheld.{Upheld}

-- where a script came to this: the report of its history, or its first statement that gives no
-- event
abbrev pub script_answer : Rules → Scene → Scripted → Answer
script_answer p scene script = elim script.bad [
  | None ↦ (status.Ok, report_text p scene script.history)
  | Some bad ↦ line_answer (line.BadStatement bad)
]

-- it is told what the script comes to, from no events
pub record IsPlayed
    (statements : List Statement) (kept : Kept) (scene : Scene) (answer : Answer) : Type 0 where
  pub script : Scripted
  pub comes : ComesTo (rules_in kept.program) scene 1 statements [] script
  -- each event may come behind those before it
  pub run : Run (rules_in kept.program) scene script.history
  pub few : length script.history ≤ MOST_EVENTS
  -- up to each event it upholds what an accepted program does
  pub upheld : (later : ℕ) → Upheld (rules_in kept.program) scene (drop later script.history)
  pub told : answer ≡ script_answer (rules_in kept.program) scene script

-- the answer to a program in a scene with these statements
abbrev pub ScriptSays : List Statement → Program → Scene → Answer → Type 0
ScriptSays statements program scene answer =
    VerdictSays (λ kept. IsPlayed statements kept scene) program answer

-- the answer to the bytes
abbrev pub StepSays : List ℕ → Answer → Type 0
StepSays bytes answer = PartsSay (codes "step") with_script ScriptSays bytes answer

abbrev pub step_meaning : Meaning
step_meaning = record { says = StepSays; whole = Unit {0}; unread = ⊥; history = Unit {0} }
