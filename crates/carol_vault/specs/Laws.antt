-- What holds of all files.
use Rattle.std.specs.Prelude.{◌≡◌, ◌≤◌, ℕ, List, length, reverse}
use Rattle.carol_program.specs.Rules.{Rules}
use Rattle.carol_program.specs.declared.scenes.Scene.{Scene}
use Rattle.carol_event.specs.declared.event.Event.{Event}
use Rattle.carol_history.specs.declared.history.TheConstants.{MOST_EVENTS}
use Rattle.carol_history.specs.Runs.{Run}
use Rattle.carol_simulation.specs.Upheld.{MayRun}
use Rattle.carol_vault.specs.Finding.{Finding, Finds, Sound}
use Rattle.carol_vault_image.specs.Records.{Shows}

-- of each file one thing is found
abbrev pub FindingsAreSingle : Type 0
FindingsAreSingle = (p : Rules) (scene : Scene) (file : List ℕ) (one other : Finding) →
    Finds p scene file one → Finds p scene file other → one ≡ other

-- a file that shows a history is found to keep it
abbrev pub ShownIsSound : Type 0
ShownIsSound = (p : Rules) (scene : Scene) (file : List ℕ) (events : List Event) →
    MayRun p scene → Run p scene (reverse events) → length events ≤ MOST_EVENTS →
    Shows file events → Finds p scene file (Sound events)
