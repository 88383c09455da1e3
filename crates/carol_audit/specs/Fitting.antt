-- The numbers of events.
use Rattle.std.specs.Prelude.{◌≤◌, List, length}
use Rattle.carol_program.specs.Rules.{Rules}
use Rattle.carol_program.specs.declared.scenes.Scene.{Scene}
use Rattle.carol_event.specs.declared.event.Event.{Event}
use Rattle.carol_event.specs.Numbers.{Each, HasNumbers}
use Rattle.carol_history.specs.declared.history.TheConstants.{MOST_EVENTS}
use Rattle.carol_history.specs.Runs.{Run}
use Rattle.carol_simulation.specs.Upheld.{MayRun}

-- those of each event fit its text, in each history of at most 131,072 events that an accepted
-- program can make
abbrev pub NumbersFit : Type 0
NumbersFit = (p : Rules) (scene : Scene) (past : List Event) → MayRun p scene →
    Run p scene past → length past ≤ MOST_EVENTS → Each HasNumbers past
