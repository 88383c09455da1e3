-- What holds of sessions that go on in turn.
use Rattle.std.specs.Prelude.{◌≡◌, List}
use Rattle.carol_program.specs.Rules.{Rules}
use Rattle.carol_program.specs.declared.scenes.Scene.{Scene}
use Rattle.carol_event.specs.declared.event.Event.{Event}
use Rattle.carol_report.specs.Turns.{Turns}

-- they make one history
abbrev pub TurnsMakeOne : Type 0
TurnsMakeOne = (p : Rules) (scene : Scene) (past one other : List Event) →
    Turns p scene past one → Turns p scene past other → one ≡ other
