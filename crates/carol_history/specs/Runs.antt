-- Which histories a program can make in a scene.
use Rattle.std.specs.Prelude.{List, [], ◌∷◌}
use Rattle.carol_program.specs.Rules.{Rules}
use Rattle.carol_program.specs.declared.scenes.Scene.{Scene}
use Rattle.carol_event.specs.declared.event.Event.{Event}
use Rattle.carol_history.specs.Legal.{Legal}

-- each event might come next after the events before it
abbrev pub Run : Rules → Scene → List Event → Type 0
Run p scene [] = Unit {0}
Run p scene (event ∷ past) = Legal p scene event past × Run p scene past
