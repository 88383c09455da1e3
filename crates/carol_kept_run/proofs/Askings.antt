-- What an input is found to ask for.
use Rattle.std.proofs.Common.{◌≡◌, ℕ, List, [], Bool, true, false, refl, sym, ap, subst}
use Rattle.std.specs.Prelude.{map, Option, Some, None, is_some, Result, Ok, Err, IfOk}
use Rattle.carol_accept.specs.Refusals.{IsKeptAs}
use Rattle.carol_grammar.specs.declared.limit.TextLimit.{TextLimit}
use Rattle.carol_grammar.specs.Outcome.{Outcome, Read, Bad, Large, Means}
use Rattle.carol_history.specs.declared.script.Statement.{Statement}
use Rattle.carol_parse.specs.Answer.{IsOnlyMeant}
use Rattle.carol_parse.specs.declared.error.TextError.{TextError}
use Rattle.carol_parse.specs.declared.error.TextError.TheVariants as text
use Rattle.carol_prepare.specs.Bytes.{BytesSay, OutcomeSays}
use Rattle.carol_prepare.specs.Parts.{AreTaken, HasParts, Nothing, PartsSay, TakesSay, scene_alone, scene_part, script_part, with_script}
use Rattle.carol_program.specs.declared.program.Program.{Program}
use Rattle.carol_program.specs.declared.scenes.Scene.{Scene}
use Rattle.carol_reply.specs.declared.halt.Halt.{Halt}
use Rattle.carol_reply.specs.Reply.{HaltSays}
use Rattle.carol_reply.specs.Texts.{Answer}
use Rattle.carol_reply.proofs.Agreeing.{halt_map}
use Rattle.carol_syntax.specs.declared.scenes.SceneDecl.{SceneDecl}
use Rattle.carol_syntax.specs.declared.scenes.ScriptLine.{ScriptLine}
use Rattle.carol_syntax.specs.Files.{FileTree, ProgramTree}
use Rattle.carol_kept_run.specs.declared.ready.Ready.{Ready}
use Rattle.carol_kept_run.specs.Asked.{HasScript, IsAsked, any_script, with_any_script}

no_true : false ≡ true → ⊥
no_true e = cc

no_false : true ≡ false → ⊥
no_false e = cc

-- ---- with a script

some_parts : (scene : Option SceneDecl) (script : Option (List ScriptLine)) (tail : Option ℕ) → is_some script ≡ true → any_script scene script tail ≡ script_part scene script
some_parts None None tail h = absurd (no_true h)
some_parts (Some scene) None tail h = absurd (no_true h)
some_parts None (Some script) tail h = refl
some_parts (Some scene) (Some script) tail h = refl

pub with_parts : (file : FileTree) → HasScript file true → with_any_script file ≡ with_script file
with_parts file h = some_parts file.scene file.script file.tail h

pub has_with : (bytes : List ℕ) (part : List Statement) (program : Program) (scene : Scene) → ((file : FileTree) → Means bytes (Read file) → HasScript file true)
    → HasParts with_script bytes part program scene → HasParts with_any_script bytes part program scene
has_with bytes part program scene has h = record {
  file = h.file;
  read = h.read;
  taken = subst (λ (x : Option (SceneDecl × List Statement)). AreTaken h.file.program x part program scene) (sym (with_parts h.file (has h.file h.read))) h.taken;
}

said_with : (bytes : List ℕ) → ((file : FileTree) → Means bytes (Read file) → HasScript file true) → (word : List ℕ) (outcome : Outcome) (answer : Answer) → Means bytes outcome
    → OutcomeSays (λ file. TakesSay word Nothing file.program (with_script file)) outcome answer → OutcomeSays (λ file. TakesSay word Nothing file.program (with_any_script file)) outcome answer
said_with bytes has word (Read file) answer means h =
    subst (λ (x : Option (SceneDecl × List Statement)). TakesSay word Nothing file.program x answer) (sym (with_parts file (has file means))) h
said_with bytes has word (Bad row column) answer means h = h
said_with bytes has word (Large limit) answer means h = h

pub told_with : (bytes word : List ℕ) (halt : Halt) → ((file : FileTree) → Means bytes (Read file) → HasScript file true) → HaltSays (PartsSay word with_script Nothing bytes) halt
    → HaltSays (PartsSay word with_any_script Nothing bytes) halt
told_with bytes word halt has =
    halt_map (PartsSay word with_script Nothing bytes) (PartsSay word with_any_script Nothing bytes)
    (λ answer h. (h.0, h.1, said_with bytes has word h.0 answer h.1 h.2)) halt

-- ---- without

takes_none : (tree : ProgramTree) (scene : Option SceneDecl) (script : Option (List ScriptLine)) (tail : Option ℕ) (program : Program) (place : Scene) → is_some script ≡ false
    → AreTaken tree (scene_part scene script tail) tt program place → AreTaken tree (any_script scene script tail) [] program place
takes_none tree None (Some script) tail program place none h = absurd (no_false none)
takes_none tree (Some scene) (Some script) tail program place none h = absurd (no_false none)
takes_none tree None None tail program place none h = absurd h
takes_none tree (Some scene) None (Some at) program place none h = absurd h
takes_none tree (Some scene) None None program place none h = (refl, h.1)

pub has_none : (bytes : List ℕ) (program : Program) (scene : Scene) → ((file : FileTree) → Means bytes (Read file) → HasScript file false)
    → HasParts scene_alone bytes tt program scene → HasParts with_any_script bytes [] program scene
has_none bytes program scene has h = record {
  file = h.file;
  read = h.read;
  taken = takes_none h.file.program h.file.scene h.file.script h.file.tail program scene (has h.file h.read) h.taken;
}

says_none : (word : List ℕ) (tree : ProgramTree) (scene : Option SceneDecl) (script : Option (List ScriptLine)) (tail : Option ℕ) (answer : Answer) → is_some script ≡ false
    → TakesSay word Nothing tree (scene_part scene script tail) answer → TakesSay word Nothing tree (any_script scene script tail) answer
says_none word tree None (Some script) tail answer none h = absurd (no_false none)
says_none word tree (Some scene) (Some script) tail answer none h = absurd (no_false none)
says_none word tree None None tail answer none h = h
says_none word tree (Some scene) None (Some at) answer none h = h
says_none word tree (Some scene) None None answer none h = h

said_none : (bytes : List ℕ) → ((file : FileTree) → Means bytes (Read file) → HasScript file false) → (word : List ℕ) (outcome : Outcome) (answer : Answer) → Means bytes outcome
    → OutcomeSays (λ file. TakesSay word Nothing file.program (scene_alone file)) outcome answer → OutcomeSays (λ file. TakesSay word Nothing file.program (with_any_script file)) outcome answer
said_none bytes has word (Read file) answer means h = says_none word file.program file.scene file.script file.tail answer (has file means) h
said_none bytes has word (Bad row column) answer means h = h
said_none bytes has word (Large limit) answer means h = h

pub told_none : (bytes word : List ℕ) (halt : Halt) → ((file : FileTree) → Means bytes (Read file) → HasScript file false) → HaltSays (PartsSay word scene_alone Nothing bytes) halt
    → HaltSays (PartsSay word with_any_script Nothing bytes) halt
told_none bytes word halt has =
    halt_map (PartsSay word scene_alone Nothing bytes) (PartsSay word with_any_script Nothing bytes)
    (λ answer h. (h.0, h.1, said_none bytes has word h.0 answer h.1 h.2)) halt

-- ---- what is said of one file is said of each that the bytes are

read_same : (one other : FileTree) → Read one ≡ Read other → one ≡ other
read_same one other e = cc

not_bad : (file : FileTree) (row column : ℕ) → Read file ≡ Bad row column → ⊥
not_bad file row column e = cc

not_large : (file : FileTree) (limit : TextLimit) → Read file ≡ Large limit → ⊥
not_large file limit e = cc

pub has_only : (bytes : List ℕ) (file : FileTree) (has : Bool) → ((other : Outcome) → Means bytes other → other ≡ Read file) → HasScript file has → (other : FileTree) → Means bytes (Read other)
    → HasScript other has
has_only bytes file has only h other means = subst (λ (x : FileTree). HasScript x has) (sym (read_same other file (only (Read other) means))) h

pub bad_only : (bytes : List ℕ) (row column : ℕ) (has : Bool) → ((other : Outcome) → Means bytes other → other ≡ Bad row column) → (file : FileTree) → Means bytes (Read file) → HasScript file has
bad_only bytes row column has only file means = absurd (not_bad file row column (only (Read file) means))

pub large_only : (bytes : List ℕ) (limit : TextLimit) (has : Bool) → ((other : Outcome) → Means bytes other → other ≡ Large limit) → (file : FileTree) → Means bytes (Read file) → HasScript file has
large_only bytes limit has only file means = absurd (not_large file limit (only (Read file) means))

-- what isn't read is no file
pub none_only : {E : Type 0} (bytes : List ℕ) (error : TextError) (r : Result Bool E) → IsOnlyMeant bytes (Err error) → IfOk r (λ _. error ≡ text.NoMemory → ⊥)
    → IfOk r (λ has. (file : FileTree) → Means bytes (Read file) → HasScript file has)
none_only bytes error (Err failed) only other = tt
none_only bytes (text.Bad row column) (Ok has) only other = bad_only bytes row column has only
none_only bytes (text.TooLarge limit) (Ok has) only other = large_only bytes limit has only
none_only bytes text.NoMemory (Ok has) only other = absurd (other refl)

-- ---- what is asked for

pub asked_of : (bytes : List ℕ) (program : Program) (scene : Scene) (script : List Statement) (r : Result Ready Halt) → HasParts with_any_script bytes script program scene
    → IfOk r (λ ready. IsKeptAs program ready.accepted) → IfOk r (λ ready. ready.scene ≡ scene) → IfOk r (λ ready. ready.script ≡ script) → IfOk r (IsAsked bytes)
asked_of bytes program scene script (Err halt) has kept scene_is script_is = tt
asked_of bytes program scene script (Ok ready) has kept scene_is script_is = record {
  program = program;
  parts = subst (λ (l : List Statement). HasParts with_any_script bytes l program ready.scene) (sym script_is)
      (subst (λ (s : Scene). HasParts with_any_script bytes script program s) (sym scene_is) has);
  is_kept = kept;
}
