-- What an input asks for.
use Rattle.std.specs.Prelude.{◌≡◌, ℕ, Bool, List, [], map, Option, Some, None, is_some}
use Rattle.carol_accept.specs.Refusals.{IsKeptAs}
use Rattle.carol_history.specs.declared.script.Statement.{Statement}
use Rattle.carol_kept_run.specs.declared.ready.Ready.{Ready}
use Rattle.carol_prepare.specs.Parts.{HasParts, statement_of}
use Rattle.carol_prepare.specs.Verdicts.{IsToldRefused}
use Rattle.carol_program.specs.declared.program.Program.{Program}
use Rattle.carol_program.specs.declared.scenes.Scene.{Scene}
use Rattle.carol_reply.specs.Texts.{Answer}
use Rattle.carol_syntax.specs.declared.scenes.SceneDecl.{SceneDecl}
use Rattle.carol_syntax.specs.declared.scenes.ScriptLine.{ScriptLine}
use Rattle.carol_syntax.specs.Files.{FileTree}

-- a scene, with the statements of a script if there is one, and no transcript
abbrev pub any_script
    : Option SceneDecl → Option (List ScriptLine) → Option ℕ
    → Option (SceneDecl × List Statement)
any_script (Some scene) (Some script) tail = Some (scene, map statement_of script)
any_script (Some scene) None None = Some (scene, [])
any_script scene script tail = None

abbrev pub with_any_script : FileTree → Option (SceneDecl × List Statement)
with_any_script file = any_script file.scene file.script file.tail

-- whether a file has a script
abbrev pub HasScript : FileTree → Bool → Type 0
HasScript file has = is_some file.script ≡ has

-- the bytes are a file with these parts, whose program is accepted and kept so
pub record IsAsked (bytes : List ℕ) (ready : Ready) : Type 0 where
  pub program : Program
  pub parts : HasParts with_any_script bytes ready.script program ready.scene
  pub is_kept : IsKeptAs program ready.accepted

-- why a program isn't accepted
abbrev pub Refused : List Statement → Program → Scene → Answer → Type 0
Refused script program scene answer = IsToldRefused program answer
