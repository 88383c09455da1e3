-- The text of an image of events.
use Rattle.std.specs.Prelude.{ℕ, List, [], ◌∷◌, ◌++◌, codes}
use Rattle.carol_program.specs.declared.names.Names.{Names}
use Rattle.carol_program.specs.Rules.{Rules}
use Rattle.carol_program.specs.declared.scenes.Scene.{Scene}
use Rattle.carol_event.specs.declared.event.Event.{Event}
use Rattle.carol_picture.specs.Frame.{head}
use Rattle.carol_picture.specs.Marks.{marks}

-- what stands around the marks, and a mark for each event, in order
unfoldable pub picture_text : Rules → Names → Scene → List Event → List ℕ
picture_text p names scene events =
    head p names scene events
    ++ (marks p names scene 0 p.initial events ++ (codes "</svg>" ++ 10 ∷ []))
