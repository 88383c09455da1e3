-- How long runs are, and who is refused in them.
use Rattle.std.specs.Prelude.{◌≤◌, ◌+◌, List, length}
use Rattle.carol_program.specs.Rules.{Rules}
use Rattle.carol_program.specs.Scenes.{IsValidScene}
use Rattle.carol_program.specs.declared.scenes.Scene.{Scene}
use Rattle.carol_event.specs.declared.event.Event.{Event}
use Rattle.carol_history.specs.Bounds.{HasNoCut, HasNoneBehind, links, most_events}
use Rattle.carol_history.specs.Runs.{Run}

-- a run has at most so many events, and as many more as replicas are cut or joined
abbrev pub RunsAreShort : Type 0
RunsAreShort = (p : Rules) (scene : Scene) (past : List Event) → IsValidScene p scene →
    Run p scene past → length past ≤ most_events p scene + links past

-- where no replicas are cut, each entry is within reach
abbrev pub NobodyIsBehind : Type 0
NobodyIsBehind = (p : Rules) (scene : Scene) (past : List Event) → IsValidScene p scene →
    Run p scene past → HasNoCut past → HasNoneBehind past
