-- A house before its first event.
use Rattle.std.specs.Prelude.{◌≡◌, []}
use Rattle.carol_accept.specs.Refusals.{IsKeptAs}
use Rattle.carol_house.specs.House.{House}
use Rattle.carol_program.specs.declared.program.Program.{Program}
use Rattle.carol_program.specs.declared.scenes.Scene.{Scene}

-- the program is accepted, and this is its house in the scene, without events
pub record IsFresh (program : Program) (scene : Scene) (house : House) : Type 0 where
  pub is_kept : IsKeptAs program house.kept
  pub is_scene : house.scene ≡ scene
  pub empty : house.history ≡ []
