-- What is told of a program in a scene as they are written: the first fault of the names, then that
-- of the scene, or what is said of the program in the scene.
use Rattle.std.specs.Prelude.{◌≡◌, ◌⊎◌, List, [], Some}
use Rattle.carol_accept.specs.Refusals.{IsKeptAs}
use Rattle.carol_program.specs.declared.program.Program.{Program}
use Rattle.carol_program.specs.declared.scenes.Scene.{Scene}
use Rattle.carol_program.specs.Rules.{rules_in}
use Rattle.carol_prepare.specs.Named.{IsProgramOf, NamesSay}
use Rattle.carol_reading.specs.Kept.{Kept}
use Rattle.carol_reply.specs.declared.line.Line.TheVariants as line
use Rattle.carol_reply.specs.Texts.{Answer, line_answer}
use Rattle.carol_scenario.specs.declared.error.SceneError.{SceneError}
use Rattle.carol_scenario.specs.Faults.{first_of, scene_faults}
use Rattle.carol_scenario.specs.Meaning.{scene_meaning}
use Rattle.carol_syntax.specs.declared.scenes.SceneDecl.{SceneDecl}
use Rattle.carol_syntax.specs.Files.{ProgramTree}

-- what is wrong with a scene of the program
abbrev pub faults_of : Program → SceneDecl → List SceneError
faults_of program scene = scene_faults (rules_in program) program.names scene

-- the first fault of the scene is told
pub record IsToldScene (program : Program) (scene : SceneDecl) (answer : Answer) : Type 0 where
  pub bad : SceneError
  pub first : first_of (faults_of program scene) ≡ Some bad
  pub told : answer ≡ line_answer (line.BadScene bad)

-- there is none, and this is the scene
pub record IsSceneOf (program : Program) (written : SceneDecl) (scene : Scene) : Type 0 where
  pub faultless : faults_of program written ≡ []
  pub meant : scene ≡ scene_meaning program.names written

-- and this is said of it
pub record IsOfScene
    (said : Scene → Answer → Type 0) (program : Program) (written : SceneDecl) (answer : Answer)
    : Type 0 where
  pub scene : Scene
  pub is_scene : IsSceneOf program written scene
  pub says : said scene answer

-- the answer to a scene of the program, by what is said of a scene that is right
abbrev pub SceneSays : (Scene → Answer → Type 0) → Program → SceneDecl → Answer → Type 0
SceneSays said program written answer =
    IsToldScene program written answer ⊎ IsOfScene said program written answer

-- the answer to both as they are written, by what is said of a program in a scene
abbrev pub PlacedSay
    : (Program → Scene → Answer → Type 0) → ProgramTree → SceneDecl → Answer → Type 0
PlacedSay said tree written answer =
    NamesSay (λ program. SceneSays (said program) program written) tree answer

-- the tree's program is kept so, and the scene is valid for it
pub record IsReady
    (tree : ProgramTree) (written : SceneDecl) (kept : Kept) (scene : Scene) : Type 0 where
  pub program : Program
  pub is_program : IsProgramOf tree program
  pub is_scene : IsSceneOf program written scene
  pub is_kept : IsKeptAs program kept
