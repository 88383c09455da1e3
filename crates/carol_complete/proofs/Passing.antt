-- Of an input against which nothing stands nothing is told on the way, but what the word tells.
use Rattle.std.proofs.Common.{◌≡◌, List, [], ℕ, refl, sym, ◌∙◌, ap, subst, inl, inr}
use Rattle.std.specs.Prelude.{Option, Some, None}
use Rattle.carol_accept.specs.Refusals.{IsFault, IsRefusedFor}
use Rattle.carol_accept.specs.declared.refused.Refused.{Refused}
use Rattle.carol_accept.specs.declared.refused.Refused.TheVariants.{InitialFails, NotReflexive, Fails, Undecided, NoMemory}
use Rattle.carol_complete.specs.Inputs.{IsInput, NothingOpen, scene_in}
use Rattle.carol_grammar.specs.Outcome.{Outcome, Read, Means}
use Rattle.carol_meaning.specs.Faults.{IsFirst}
use Rattle.carol_meaning.specs.Programs.{names_of, program_faults, rules_of}
use Rattle.carol_prepare.specs.Bytes.{BytesSay, OutcomeSays}
use Rattle.carol_prepare.specs.Named.{IsProgramOf, NamesSay}
use Rattle.carol_prepare.specs.Parts.{PartsSay, TakesSay}
use Rattle.carol_prepare.specs.Scenes.{PlacedSay, SceneSays}
use Rattle.carol_prepare.specs.Verdicts.{VerdictSays, verdict_answer}
use Rattle.carol_prepare.proofs.Firsts.{first_none}
use Rattle.carol_prepare.proofs.Settled.{OneOutcome}
use Rattle.carol_program.specs.declared.program.Program.{Program}
use Rattle.carol_program.specs.declared.scenes.Scene.{Scene}
use Rattle.carol_program.specs.Rules.{Rules, rules_in}
use Rattle.carol_program.specs.Scenes.{IsValidScene}
use Rattle.carol_reading.specs.Good.{IsAccepted}
use Rattle.carol_reading.specs.Kept.{Kept}
use Rattle.carol_reply.specs.Texts.{Answer}
use Rattle.carol_scenario.specs.declared.error.SceneError.{SceneError}
use Rattle.carol_scenario.specs.Faults.{first_of, scene_faults}
use Rattle.carol_scenario.specs.Meaning.{scene_meaning}
use Rattle.carol_scenario.proofs.Valid.{valid_scene}
use Rattle.carol_syntax.specs.declared.scenes.SceneDecl.{SceneDecl}
use Rattle.carol_syntax.specs.Files.{FileTree, ProgramTree}

none_some : (answer : Answer) → None ≡ Some answer → ⊥
none_some answer e = cc

no_fault : (bad : SceneError) → None ≡ Some bad → ⊥
no_fault bad e = cc

-- an accepted program of which nothing is open isn't refused
never_refused : (p : Rules) (r : Refused) (answer : Answer) → IsAccepted p → NothingOpen p → IsRefusedFor p r → (IsFault r → ¬ IsAccepted p) → verdict_answer r ≡ Some answer → ⊥
never_refused p (InitialFails program) answer accepted none why fault told = fault tt accepted
never_refused p (NotReflexive program guard at) answer accepted none why fault told = fault tt accepted
never_refused p (Fails program place at) answer accepted none why fault told = fault tt accepted
never_refused p (Undecided program place reason) answer accepted none why fault told = elim why.1 [
  | inl guard ↦ none.guards place reason guard
  | inr operation ↦ none.operations place reason operation.1
]
never_refused p NoMemory answer accepted none why fault told = none_some answer told

-- so this is said of it as it is kept
pub verdict_said : (said : Kept → Answer → Type 0) (p : Rules) (program : Program) (answer : Answer) → IsAccepted p → NothingOpen p → rules_in program ≡ p
    → VerdictSays said program answer → (kept : Kept) × (rules_in kept.program ≡ p) × said kept answer
verdict_said said p program answer accepted none same (inl told) =
    absurd (never_refused p told.refused answer accepted none (subst (λ (r : Rules). IsRefusedFor r told.refused) same told.why)
    (subst (λ (r : Rules). IsFault told.refused → ¬ IsAccepted r) same told.fault) told.told)
verdict_said said p program answer accepted none same (inr h) = (h.kept, ap rules_in h.is_kept.same ∙ same, h.says)

-- of names that are right
pub names_said : (said : Program → Answer → Type 0) (tree : ProgramTree) (answer : Answer) → program_faults tree ≡ [] → NamesSay said tree answer
    → (program : Program) × IsProgramOf tree program × said program answer
names_said said tree answer faultless (inl told) = absurd (first_none told.bad (subst (IsFirst told.bad) faultless told.first))
names_said said tree answer faultless (inr h) = (h.program, h.is_program, h.says)

-- of a scene that is right
scene_said : (said : Scene → Answer → Type 0) (tree : ProgramTree) (written : SceneDecl) (program : Program) (answer : Answer) → IsProgramOf tree program
    → scene_faults (rules_of tree) (names_of tree) written ≡ [] → SceneSays said program written answer → said (scene_in tree written) answer
scene_said said tree written program answer is placed (inl told) =
    let none : scene_faults (rules_in program) program.names written ≡ [] = rw (is.rules, is.names) placed in
    absurd (no_fault told.bad (sym (ap first_of none) ∙ told.first))
scene_said said tree written program answer is placed (inr h) =
    subst (λ (s : Scene). said s answer) (h.is_scene.meant ∙ ap (λ names. scene_meaning names written) is.names) h.says

-- of a file that is read, whatever stands behind its program
pub file_said : OneOutcome → (said : FileTree → Answer → Type 0) (bytes : List ℕ) (file : FileTree) (answer : Answer) → Means bytes (Read file) → BytesSay said bytes answer
    → said file answer
file_said once said bytes file answer read h = subst (λ (o : Outcome). OutcomeSays said o answer) (once bytes h.0 (Read file) h.1 read) h.2

-- of the parts that a word takes
pub taken_said : {A : Type 0} → OneOutcome → (word : List ℕ) (parts : FileTree → Option (SceneDecl × A)) (said : A → Program → Scene → Answer → Type 0) (bytes : List ℕ)
    (file : FileTree) (written : SceneDecl) (part : A) (answer : Answer) → Means bytes (Read file) → parts file ≡ Some (written, part)
    → PartsSay word parts said bytes answer → PlacedSay (said part) file.program written answer
taken_said {A} once word parts said bytes file written part answer read taken h =
    let told : TakesSay word said file.program (parts file) answer = file_said once (λ f. TakesSay word said f.program (parts f)) bytes file answer read h in
    subst (λ (t : Option (SceneDecl × A)). TakesSay word said file.program t answer) taken told

pub input_said : {A : Type 0} → OneOutcome → (word : List ℕ) (parts : FileTree → Option (SceneDecl × A)) (asked : Rules → Scene → A → Type 0)
    (said : A → Program → Scene → Answer → Type 0) (bytes : List ℕ) (answer : Answer) (input : IsInput parts asked bytes) → PartsSay word parts said bytes answer
    → (program : Program) × IsProgramOf input.file.program program × said input.part program (scene_in input.file.program input.written) answer
input_said once word parts asked said bytes answer input h =
    let placed = taken_said once word parts said bytes input.file input.written input.part answer input.read input.taken h in
    let named = names_said (λ program. SceneSays (said input.part program) program input.written) input.file.program answer input.passing.faultless placed in
    (named.0, named.1, scene_said (said input.part named.0) input.file.program input.written named.0 answer named.1 input.placed named.2)

-- a scene that is right is valid
pub scene_valid : (tree : ProgramTree) (written : SceneDecl) → scene_faults (rules_of tree) (names_of tree) written ≡ [] → IsValidScene (rules_of tree) (scene_in tree written)
scene_valid tree written placed = valid_scene (rules_of tree) (names_of tree) written (scene_in tree written) placed refl refl refl refl refl
