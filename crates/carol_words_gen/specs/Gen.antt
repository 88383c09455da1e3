-- What `gen N` means.
use Rattle.std.specs.Prelude.{◌≡◌, ◌≤◌, ℕ, List, [], ◌++◌, length, drop, codes, decimal}
use Rattle.carol_event.specs.declared.event.Event.{Event}
use Rattle.carol_history.specs.declared.history.TheConstants.{MOST_EVENTS}
use Rattle.carol_history.specs.Bounds.{most_events}
use Rattle.carol_history.specs.Runs.{Run}
use Rattle.carol_prepare.specs.Parts.{PartsSay, scene_alone}
use Rattle.carol_prepare.specs.Verdicts.{VerdictSays}
use Rattle.carol_program.specs.declared.program.Program.{Program}
use Rattle.carol_program.specs.declared.scenes.Scene.{Scene}
use Rattle.carol_program.specs.Rules.{rules_in}
use Rattle.carol_reading.specs.Kept.{Kept}
use Rattle.carol_reply.specs.declared.status.Status.TheVariants as status
use Rattle.carol_reply.specs.Meaning.{Meaning}
use Rattle.carol_reply.specs.Texts.{Answer}
use Rattle.carol_report.specs.Summary.{summary_text}
use Rattle.carol_report.specs.Turns.{Turns}
use Rattle.carol_generator.specs.Generated.{generated_text}
use Rattle.carol_simulation.specs.Upheld.{Upheld}

-- The history is summed up that the sessions of the scene make from no events, when they go on in
-- turn.
pub record IsSummed (count : ℕ) (kept : Kept) (scene : Scene) (answer : Answer) : Type 0 where
  pub past : List Event
  pub turns : Turns (rules_in kept.program) scene [] past
  -- each event may come behind those before it
  pub run : Run (rules_in kept.program) scene past
  pub few : length past ≤ MOST_EVENTS
  pub short : length past ≤ most_events (rules_in kept.program) scene
  -- up to each event it upholds what an accepted program does
  pub upheld : (later : ℕ) → Upheld (rules_in kept.program) scene (drop later past)
  pub told : answer ≡ (status.Ok, summary_text count (rules_in kept.program) scene past)

-- the answer to a program in a scene
abbrev pub SceneSums : ℕ → Unit {0} → Program → Scene → Answer → Type 0
SceneSums count none program scene answer =
    VerdictSays (λ kept. IsSummed count kept scene) program answer

abbrev pub gen_words : ℕ → List ℕ
gen_words count = codes "gen " ++ decimal count

-- the answer to the number: the text that is made with it is read as any input is
abbrev pub GenSays : ℕ → Answer → Type 0
GenSays count answer =
    PartsSay (gen_words count) scene_alone (SceneSums count) (generated_text count) answer

abbrev pub gen_meaning : ℕ → Meaning
gen_meaning count =
    record { says = λ _. GenSays count; whole = ⊥; unread = Unit {0}; history = Unit {0} }
