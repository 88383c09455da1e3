-- The parts of a file that a word takes, and what is told of the bytes by what is said of them.
use Rattle.std.specs.Prelude.{◌≡◌, List, ℕ, map, Option, Some, None}
use Rattle.carol_grammar.specs.Outcome.{Read, Means}
use Rattle.carol_history.specs.declared.script.Statement.{Statement}
use Rattle.carol_history.specs.declared.script.Statement.TheVariants as statement
use Rattle.carol_prepare.specs.Bytes.{BytesSay}
use Rattle.carol_prepare.specs.Named.{IsProgramOf, NamesSay}
use Rattle.carol_prepare.specs.Scenes.{IsSceneOf, PlacedSay}
use Rattle.carol_program.specs.declared.program.Program.{Program}
use Rattle.carol_program.specs.declared.scenes.Scene.{Scene}
use Rattle.carol_program.specs.Rules.{rules_in}
use Rattle.carol_program.specs.Scenes.{IsValidScene}
use Rattle.carol_program.specs.WellFormed.{IsWellFormed}
use Rattle.carol_reply.specs.Texts.{Answer, part_answer}
use Rattle.carol_syntax.specs.declared.scenes.SceneDecl.{SceneDecl}
use Rattle.carol_syntax.specs.declared.scenes.ScriptLine.{ScriptLine}
use Rattle.carol_syntax.specs.declared.scenes.ScriptLine.TheVariants.{Go, Gossip, Cut, Join}
use Rattle.carol_syntax.specs.Files.{FileTree, ProgramTree}

-- the statement that a line of a script stands for
abbrev pub statement_of : ScriptLine → Statement
statement_of (Go session) = statement.Go session
statement_of (Gossip source target) = statement.Gossip source target
statement_of (Cut a b) = statement.Cut a b
statement_of (Join a b) = statement.Join a b

-- Beside a program a word takes a scene alone, with which the file ends, or one with a script or a
-- transcript behind it: of the script its statements, of the transcript the offset of its second
-- line.
abbrev pub scene_part
    : Option SceneDecl → Option (List ScriptLine) → Option ℕ → Option (SceneDecl × Unit {0})
scene_part (Some scene) None None = Some (scene, tt)
scene_part scene script tail = None

abbrev pub script_part
    : Option SceneDecl → Option (List ScriptLine) → Option (SceneDecl × List Statement)
script_part (Some scene) (Some script) = Some (scene, map statement_of script)
script_part scene script = None

abbrev pub tail_part : Option SceneDecl → Option ℕ → Option (SceneDecl × ℕ)
tail_part (Some scene) (Some offset) = Some (scene, offset)
tail_part scene tail = None

abbrev pub scene_alone : FileTree → Option (SceneDecl × Unit {0})
scene_alone file = scene_part file.scene file.script file.tail

abbrev pub with_script : FileTree → Option (SceneDecl × List Statement)
with_script file = script_part file.scene file.script

abbrev pub with_tail : FileTree → Option (SceneDecl × ℕ)
with_tail file = tail_part file.scene file.tail

-- the answer to what a word takes of a file: that it isn't there, or what is told of it
abbrev pub TakesSay
    : {A : Type 0} → List ℕ → (A → Program → Scene → Answer → Type 0) → ProgramTree
    → Option (SceneDecl × A) → Answer → Type 0
TakesSay word said tree None answer = answer ≡ part_answer word
TakesSay word said tree (Some (scene, part)) answer = PlacedSay (said part) tree scene answer

-- the answer to the bytes, to which a word takes these parts of a file, by what is said of the
-- program in the scene with the third part
abbrev pub PartsSay
    : {A : Type 0} → List ℕ → (FileTree → Option (SceneDecl × A))
    → (A → Program → Scene → Answer → Type 0) → List ℕ → Answer → Type 0
PartsSay word parts said bytes answer =
    BytesSay (λ file. TakesSay word said file.program (parts file)) bytes answer

-- the answer to the bytes, where no part but the program is looked at
abbrev pub ProgramSays : (Program → Answer → Type 0) → List ℕ → Answer → Type 0
ProgramSays said bytes answer = BytesSay (λ file. NamesSay said file.program) bytes answer

-- the bytes are a file with this program
pub record HasProgram (bytes : List ℕ) (program : Program) : Type 0 where
  pub file : FileTree
  pub read : Means bytes (Read file)
  pub is_program : IsProgramOf file.program program

-- the tree stands for the program, and what is written for the scene
pub record IsPlaced (tree : ProgramTree) (written : SceneDecl) (program : Program) (scene : Scene)
    : Type 0 where
  pub is_program : IsProgramOf tree program
  pub is_scene : IsSceneOf program written scene

-- these parts were taken, which stand for the program, in the scene
abbrev pub AreTaken
    : {A : Type 0} → ProgramTree → Option (SceneDecl × A) → A → Program → Scene → Type 0
AreTaken tree None part program scene = ⊥
AreTaken tree (Some (written, taken)) part program scene =
    (part ≡ taken) × IsPlaced tree written program scene

-- they are those of the file that the bytes are
pub record HasParts
    {A : Type 0} (parts : FileTree → Option (SceneDecl × A)) (bytes : List ℕ) (part : A)
    (program : Program) (scene : Scene) : Type 0 where
  pub file : FileTree
  pub read : Means bytes (Read file)
  pub taken : AreTaken file.program (parts file) part program scene

-- the program is well formed, and the scene is valid for it
pub record IsFit (program : Program) (scene : Scene) : Type 0 where
  pub well_formed : IsWellFormed (rules_in program) program.names
  pub valid : IsValidScene (rules_in program) scene

-- nothing is said
abbrev pub Nothing : {A : Type 0} → A → Program → Scene → Answer → Type 0
Nothing part program scene answer = ⊥
