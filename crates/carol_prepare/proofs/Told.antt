-- What is told on the way is what is said of the bytes, whatever is said of a program that comes further.
use Rattle.std.proofs.Common.{◌≡◌, List, ℕ, refl, sym, ◌∙◌, ap, subst, inl, inr}
use Rattle.std.specs.Prelude.{◌⊎◌, Option, Some, None, Result, Ok, Err, IfErr}
use Rattle.carol_accept.specs.Refusals.{IsKeptAs}
use Rattle.carol_grammar.specs.Outcome.{Outcome, Read, Bad, Large, Means}
use Rattle.carol_meaning.specs.declared.fault.Fault.{Fault}
use Rattle.carol_meaning.specs.Faults.{IsFirst}
use Rattle.carol_meaning.specs.Programs.{program_faults}
use Rattle.carol_parse.specs.Answer.{IsMeant}
use Rattle.carol_parse.specs.declared.error.TextError.{TextError}
use Rattle.carol_parse.specs.declared.error.TextError.TheVariants as text
use Rattle.carol_prepare.specs.Bytes.{BytesSay, OutcomeSays, text_answer}
use Rattle.carol_prepare.specs.Named.{IsProgramOf, IsToldName, NamesSay, name_answer, name_line}
use Rattle.carol_prepare.specs.Parts.{AreTaken, HasParts, HasProgram, IsPlaced, Nothing, PartsSay, ProgramSays, TakesSay}
use Rattle.carol_prepare.specs.Scenes.{IsSceneOf, IsToldScene, PlacedSay, SceneSays, faults_of}
use Rattle.carol_prepare.specs.Verdicts.{IsOfAccepted, IsToldRefused, VerdictSays}
use Rattle.carol_program.specs.declared.program.Program.{Program}
use Rattle.carol_program.specs.declared.scenes.Scene.{Scene}
use Rattle.carol_program.specs.Rules.{rules_in}
use Rattle.carol_reading.specs.Kept.{Kept}
use Rattle.carol_reply.specs.declared.halt.Halt.{Halt}
use Rattle.carol_reply.specs.declared.halt.Halt.TheVariants.{Told, NoMemory}
use Rattle.carol_reply.specs.declared.line.Line.TheVariants as line
use Rattle.carol_reply.specs.Reply.{HaltSays, HaltTells}
use Rattle.carol_reply.specs.Texts.{Answer, line_answer, part_answer}
use Rattle.carol_reply.proofs.Agreeing.{halt_map, halt_told}
use Rattle.carol_resolve.specs.declared.error.NameError.{NameError}
use Rattle.carol_resolve.specs.declared.error.NameError.TheVariants as name
use Rattle.carol_scenario.specs.declared.error.SceneError.{SceneError}
use Rattle.carol_scenario.specs.declared.error.SceneError.TheVariants as bad_scene
use Rattle.carol_scenario.specs.Faults.{Refuses, first_of}
use Rattle.carol_syntax.specs.declared.scenes.SceneDecl.{SceneDecl}
use Rattle.carol_syntax.specs.Files.{FileTree, ProgramTree}

some_same : (a b : Answer) → Some a ≡ Some b → a ≡ b
some_same a b e = cc

none_some : (a : Answer) → None ≡ Some a → ⊥
none_some a e = cc

-- what an error tells has what follows
pub err_map : {A : Type 0} (one two : Halt → Type 0) → ((halt : Halt) → one halt → two halt) → (r : Result A Halt) → IfErr r one → IfErr r two
err_map one two to (Ok value) h = tt
err_map one two to (Err halt) h = to halt h

-- this is the error
pub told_err : {A : Type 0} (has : Halt → Type 0) (halt : Halt) (r : Result A Halt) → r ≡ Err halt → has halt → IfErr r has
told_err has halt r is h = subst (λ x. IfErr x has) (sym is) h

-- ---- each fault

-- a text isn't read
text_told : (said : FileTree → Answer → Type 0) (bytes : List ℕ) (error : TextError) (answer : Answer) → IsMeant bytes (Err error)
    → text_answer error ≡ Some answer → BytesSay said bytes answer
text_told said bytes (text.Bad row column) answer means told = (Bad row column, means, sym (some_same _ _ told))
text_told said bytes (text.TooLarge limit) answer means told = (Large limit, means, sym (some_same _ _ told))
text_told said bytes text.NoMemory answer means told = absurd (none_some answer told)

pub told_text : (said : FileTree → Answer → Type 0) (bytes : List ℕ) (error : TextError) (halt : Halt) → IsMeant bytes (Err error)
    → HaltTells (text_answer error) halt → HaltSays (BytesSay said bytes) halt
told_text said bytes error halt means = halt_told (text_answer error) (BytesSay said bytes) (λ answer told. text_told said bytes error answer means told) halt

-- something is wrong with the names
name_told : (tree : ProgramTree) (error : NameError) (answer : Answer)
    → ((f : Fault) → error ≡ name.Wrong f.kind f.name f.span → IsFirst f (program_faults tree)) → name_answer error ≡ Some answer → IsToldName tree answer
name_told tree (name.Wrong kind called span) answer first told = record {
  bad = record { kind = kind; name = called; span = span };
  first = first (record { kind = kind; name = called; span = span }) refl;
  told = sym (some_same _ _ told);
}
name_told tree name.NoMemory answer first told = absurd (none_some answer told)

pub told_name : (tree : ProgramTree) (error : NameError) (halt : Halt)
    → ((f : Fault) → error ≡ name.Wrong f.kind f.name f.span → IsFirst f (program_faults tree))
    → HaltTells (name_answer error) halt → HaltSays (IsToldName tree) halt
told_name tree error halt first = halt_told (name_answer error) (IsToldName tree) (λ answer told. name_told tree error answer first told) halt

-- or with the scene
refuses_first : (faults : List SceneError) (bad : SceneError) → Refuses faults bad → (bad ≡ bad_scene.NoMemory → ⊥) → first_of faults ≡ Some bad
refuses_first faults (bad_scene.OutOfRange limit span) h other = h
refuses_first faults (bad_scene.Unknown span) h other = h
refuses_first faults (bad_scene.Arity span) h other = h
refuses_first faults (bad_scene.NoSuchReplica session) h other = h
refuses_first faults (bad_scene.BadArgument session command parameter) h other = h
refuses_first faults bad_scene.NoMemory h other = absurd (other refl)

pub told_scene : (program : Program) (written : SceneDecl) (bad : SceneError) (halt : Halt) → Refuses (faults_of program written) bad → (bad ≡ bad_scene.NoMemory → ⊥)
    → HaltTells (Some (line_answer (line.BadScene bad))) halt → HaltSays (IsToldScene program written) halt
told_scene program written bad halt refuses other =
    halt_told (Some (line_answer (line.BadScene bad))) (IsToldScene program written)
    (λ answer told. record { bad = bad; first = refuses_first (faults_of program written) bad refuses other; told = sym (some_same _ _ told) }) halt

-- ---- what is told where nothing more is said, whatever is

names_more : (one two : Program → Answer → Type 0) → ((program : Program) (answer : Answer) → one program answer → two program answer)
    → (tree : ProgramTree) (answer : Answer) → NamesSay one tree answer → NamesSay two tree answer
names_more one two to tree answer (inl h) = inl h
names_more one two to tree answer (inr h) = inr (record { program = h.program; is_program = h.is_program; says = to h.program answer h.says })

scene_more : (one two : Scene → Answer → Type 0) → ((scene : Scene) (answer : Answer) → one scene answer → two scene answer)
    → (program : Program) (written : SceneDecl) (answer : Answer) → SceneSays one program written answer → SceneSays two program written answer
scene_more one two to program written answer (inl h) = inl h
scene_more one two to program written answer (inr h) = inr (record { scene = h.scene; is_scene = h.is_scene; says = to h.scene answer h.says })

placed_more : (one two : Program → Scene → Answer → Type 0) → ((program : Program) (scene : Scene) (answer : Answer) → one program scene answer → two program scene answer)
    → (tree : ProgramTree) (written : SceneDecl) (answer : Answer) → PlacedSay one tree written answer → PlacedSay two tree written answer
placed_more one two to tree written =
    names_more (λ program. SceneSays (one program) program written) (λ program. SceneSays (two program) program written)
    (λ program. scene_more (one program) (two program) (to program) program written) tree

takes_more : {A : Type 0} (word : List ℕ) (one two : A → Program → Scene → Answer → Type 0)
    → ((part : A) (program : Program) (scene : Scene) (answer : Answer) → one part program scene answer → two part program scene answer)
    → (tree : ProgramTree) (taken : Option (SceneDecl × A)) (answer : Answer) → TakesSay word one tree taken answer → TakesSay word two tree taken answer
takes_more word one two to tree None answer h = h
takes_more word one two to tree (Some (written, part)) answer h = placed_more (one part) (two part) (to part) tree written answer h

bytes_more : (one two : FileTree → Answer → Type 0) → ((file : FileTree) (answer : Answer) → one file answer → two file answer)
    → (bytes : List ℕ) (answer : Answer) → BytesSay one bytes answer → BytesSay two bytes answer
bytes_more one two to bytes answer (Read file, means, h) = (Read file, means, to file answer h)
bytes_more one two to bytes answer (Bad row column, means, h) = (Bad row column, means, h)
bytes_more one two to bytes answer (Large limit, means, h) = (Large limit, means, h)

pub bytes_before : (said : FileTree → Answer → Type 0) (bytes : List ℕ) (halt : Halt) → HaltSays (BytesSay (λ _ _. ⊥) bytes) halt → HaltSays (BytesSay said bytes) halt
bytes_before said bytes halt = halt_map (BytesSay (λ _ _. ⊥) bytes) (BytesSay said bytes) (λ answer h. bytes_more (λ _ _. ⊥) said (λ file a none. absurd none) bytes answer h) halt

pub program_before : (said : Program → Answer → Type 0) (bytes : List ℕ) (halt : Halt) → HaltSays (ProgramSays (λ _ _. ⊥) bytes) halt → HaltSays (ProgramSays said bytes) halt
program_before said bytes halt = halt_map (ProgramSays (λ _ _. ⊥) bytes) (ProgramSays said bytes)
    (λ answer h. bytes_more (λ file. NamesSay (λ _ _. ⊥) file.program) (λ file. NamesSay said file.program)
    (λ file a. names_more (λ _ _. ⊥) said (λ program b none. absurd none) file.program a) bytes answer h) halt

pub parts_before : {A : Type 0} (word : List ℕ) (parts : FileTree → Option (SceneDecl × A)) (said : A → Program → Scene → Answer → Type 0) (bytes : List ℕ) (halt : Halt)
    → HaltSays (PartsSay word parts Nothing bytes) halt → HaltSays (PartsSay word parts said bytes) halt
parts_before word parts said bytes halt = halt_map (PartsSay word parts Nothing bytes) (PartsSay word parts said bytes)
    (λ answer h. bytes_more (λ file. TakesSay word Nothing file.program (parts file)) (λ file. TakesSay word said file.program (parts file))
    (λ file a. takes_more word Nothing said (λ part program scene b none. absurd none) file.program (parts file) a) bytes answer h) halt

-- ---- what is told of a file

-- the bytes are the file
pub of_file : (said : FileTree → Answer → Type 0) (bytes : List ℕ) (file : FileTree) (halt : Halt) → Means bytes (Read file) → HaltSays (said file) halt → HaltSays (BytesSay said bytes) halt
of_file said bytes file halt means = halt_map (said file) (BytesSay said bytes) (λ answer h. (Read file, means, h)) halt

pub of_name : (said : Program → Answer → Type 0) (tree : ProgramTree) (halt : Halt) → HaltSays (IsToldName tree) halt → HaltSays (NamesSay said tree) halt
of_name said tree halt = halt_map (IsToldName tree) (NamesSay said tree) (λ answer h. inl h) halt

pub of_scene : (said : Program → Scene → Answer → Type 0) (tree : ProgramTree) (written : SceneDecl) (program : Program) (halt : Halt) → IsProgramOf tree program
    → HaltSays (IsToldScene program written) halt → HaltSays (PlacedSay said tree written) halt
of_scene said tree written program halt is = halt_map (IsToldScene program written) (PlacedSay said tree written)
    (λ answer h. inr (record { program = program; is_program = is; says = inl h })) halt

-- it hasn't the parts
pub of_parts : {A : Type 0} (word : List ℕ) (said : A → Program → Scene → Answer → Type 0) (tree : ProgramTree) (taken : Option (SceneDecl × A)) (halt : Halt) → taken ≡ None
    → HaltTells (Some (part_answer word)) halt → HaltSays (TakesSay word said tree taken) halt
of_parts word said tree taken halt none =
    halt_told (Some (part_answer word)) (TakesSay word said tree taken) (λ answer told. subst (λ t. TakesSay word said tree t answer) (sym none) (sym (some_same _ _ told))) halt

-- ---- what is said of the program and its parts

pub program_said : (said : Program → Answer → Type 0) (bytes : List ℕ) (program : Program) (answer : Answer) → HasProgram bytes program → said program answer → ProgramSays said bytes answer
program_said said bytes program answer has h = (Read has.file, has.read, inr (record { program = program; is_program = has.is_program; says = h }))

placed_said : (said : Program → Scene → Answer → Type 0) (tree : ProgramTree) (written : SceneDecl) (program : Program) (scene : Scene) (answer : Answer)
    → IsPlaced tree written program scene → said program scene answer → PlacedSay said tree written answer
placed_said said tree written program scene answer is h = inr (record {
  program = program;
  is_program = is.is_program;
  says = inr (record { scene = scene; is_scene = is.is_scene; says = h });
})

takes_said : {A : Type 0} (word : List ℕ) (said : A → Program → Scene → Answer → Type 0) (tree : ProgramTree) (taken : Option (SceneDecl × A)) (part : A)
    (program : Program) (scene : Scene) (answer : Answer) → AreTaken tree taken part program scene → said part program scene answer → TakesSay word said tree taken answer
takes_said word said tree None part program scene answer are h = absurd are
takes_said word said tree (Some (written, taken)) part program scene answer are h =
    placed_said (said taken) tree written program scene answer are.1 (subst (λ p. said p program scene answer) are.0 h)

pub parts_said : {A : Type 0} (word : List ℕ) (parts : FileTree → Option (SceneDecl × A)) (said : A → Program → Scene → Answer → Type 0) (bytes : List ℕ) (part : A)
    (program : Program) (scene : Scene) (answer : Answer) → HasParts parts bytes part program scene → said part program scene answer → PartsSay word parts said bytes answer
parts_said word parts said bytes part program scene answer has h =
    (Read has.file, has.read, takes_said word said has.file.program (parts has.file) part program scene answer has.taken h)
