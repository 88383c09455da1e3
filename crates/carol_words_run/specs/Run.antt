-- What `run` means.
use Rattle.std.specs.Prelude.{◌≡◌, ◌≤◌, ℕ, List, length, drop, codes}
use Rattle.carol_event.specs.declared.event.Event.{Event}
use Rattle.carol_history.specs.declared.history.TheConstants.{MOST_EVENTS}
use Rattle.carol_history.specs.Bounds.{HasNoneBehind, most_events}
use Rattle.carol_history.specs.Results.{AreDone}
use Rattle.carol_history.specs.Runs.{Run}
use Rattle.carol_prepare.specs.Parts.{PartsSay, scene_alone}
use Rattle.carol_prepare.specs.Verdicts.{VerdictSays}
use Rattle.carol_program.specs.declared.program.Program.{Program}
use Rattle.carol_program.specs.declared.scenes.Scene.{Scene}
use Rattle.carol_program.specs.Rules.{rules_in}
use Rattle.carol_reading.specs.Kept.{Kept}
use Rattle.carol_reply.specs.declared.status.Status.{Status}
use Rattle.carol_reply.specs.declared.status.Status.TheVariants as status
use Rattle.carol_reply.specs.Meaning.{Meaning}
use Rattle.carol_reply.specs.Texts.{Answer}
use Rattle.carol_report.specs.Report.{report_text}
use Rattle.carol_simulation.specs.Upheld.{Upheld}
use Rattle.carol_worker.specs.Running.{HasNoLink}

-- the status that tells how a history ended: all commands are done, or one is open and the history
-- has as many events as it may have
abbrev pub Ended : Scene → List Event → Status → Type 0
Ended scene past status.Ok = AreDone scene past
Ended scene past status.Full = (AreDone scene past → ⊥) × (length past ≡ MOST_EVENTS)
Ended scene past ended = ⊥

-- A history of the accepted program in the scene, from no events, is told. In which order threads
-- take their steps isn't known, so it may be one or another.
pub record IsToldRun (kept : Kept) (scene : Scene) (answer : Answer) : Type 0 where
  pub past : List Event
  -- each event may come behind those before it, none cuts or joins replicas, and nobody is refused
  -- behind an entry
  pub run : Run (rules_in kept.program) scene past
  pub unlinked : HasNoLink past
  pub none_behind : HasNoneBehind past
  pub few : length past ≤ MOST_EVENTS
  pub short : length past ≤ most_events (rules_in kept.program) scene
  -- up to each event it upholds what an accepted program does
  pub upheld : (count : ℕ) → Upheld (rules_in kept.program) scene (drop count past)
  pub ended : Ended scene past answer.0
  pub told : answer.1 ≡ report_text (rules_in kept.program) scene past

-- the answer to a program in a scene
abbrev pub SceneRuns : Unit {0} → Program → Scene → Answer → Type 0
SceneRuns none program scene answer = VerdictSays (λ kept. IsToldRun kept scene) program answer

-- the answer to the bytes
abbrev pub RunSays : List ℕ → Answer → Type 0
RunSays bytes answer = PartsSay (codes "run") scene_alone SceneRuns bytes answer

abbrev pub run_meaning : Meaning
run_meaning = record { says = RunSays; whole = Unit {0}; unread = ⊥; history = ⊥ }
