-- That the answers on the way have statuses of the word's own, and agree, if those to what is said last
-- do.
use Rattle.std.proofs.Common.{◌≡◌, List, ℕ, [], refl, sym, ◌∙◌, ap, subst, inl, inr}
use Rattle.std.specs.Prelude.{Option, Some, None}
use Rattle.carol_accept.specs.Refusals.{IsKeptAs}
use Rattle.carol_grammar.specs.Outcome.{Outcome, Read, Bad, Large, Means}
use Rattle.carol_meaning.specs.declared.fault.Fault.{Fault}
use Rattle.carol_meaning.specs.Faults.{IsFirst}
use Rattle.carol_meaning.specs.Programs.{names_of, program_faults, rules_of}
use Rattle.carol_prepare.specs.Bytes.{BytesSay, OutcomeSays}
use Rattle.carol_prepare.specs.Named.{IsProgramOf, IsToldName, NamesSay}
use Rattle.carol_prepare.specs.Parts.{PartsSay, ProgramSays, TakesSay}
use Rattle.carol_prepare.specs.Scenes.{IsSceneOf, IsToldScene, PlacedSay, SceneSays, faults_of}
use Rattle.carol_prepare.specs.Verdicts.{IsOfAccepted as IsSaidOf, VerdictSays}
use Rattle.carol_program.specs.declared.program.Program.{Program}
use Rattle.carol_program.specs.declared.scenes.Scene.{Scene}
use Rattle.carol_program.specs.Rules.{Rules, rules_in}
use Rattle.carol_program.specs.Scenes.{IsValidScene}
use Rattle.carol_reading.specs.Good.{IsAccepted}
use Rattle.carol_reading.specs.Kept.{Kept}
use Rattle.carol_reply.specs.declared.line.Line.TheVariants as line
use Rattle.carol_reply.specs.Meaning.{Agree, IsOwn}
use Rattle.carol_reply.specs.Texts.{Answer, line_answer}
use Rattle.carol_reply.proofs.Agreeing.{Agrees, AreOwn, agree_same}
use Rattle.carol_scenario.specs.declared.error.SceneError.{SceneError}
use Rattle.carol_scenario.specs.Faults.{first_of, scene_faults}
use Rattle.carol_scenario.specs.Meaning.{scene_meaning}
use Rattle.carol_scenario.proofs.Valid.{valid_scene}
use Rattle.carol_syntax.specs.declared.scenes.SceneDecl.{SceneDecl}
use Rattle.carol_syntax.specs.Files.{FileTree, ProgramTree}
use Rattle.carol_prepare.proofs.Firsts.{first_line, first_none}
use Rattle.carol_prepare.proofs.Refusals.{IsOfAccepted, accepted_own, refusal_own, refusals_agree, refused_first, refused_last}

-- a text is answered in one way at most
abbrev pub OneOutcome : Type 0
OneOutcome = (bytes : List ℕ) (one other : Outcome) → Means bytes one → Means bytes other → one ≡ other

-- ---- the bytes

outcomes_own : (said : FileTree → Answer → Type 0) → ((file : FileTree) → AreOwn (said file)) → (outcome : Outcome) → AreOwn (OutcomeSays said outcome)
outcomes_own said own (Read file) answer h = own file answer h
outcomes_own said own (Bad row column) answer h = subst (λ a. IsOwn a.0) (sym h) tt
outcomes_own said own (Large limit) answer h = subst (λ a. IsOwn a.0) (sym h) tt

pub bytes_own : (said : FileTree → Answer → Type 0) → ((file : FileTree) → AreOwn (said file)) → (bytes : List ℕ) → AreOwn (BytesSay said bytes)
bytes_own said own bytes answer h = outcomes_own said own h.0 answer h.2

outcomes_agree : (history : Type 0) (said : FileTree → Answer → Type 0) → ((file : FileTree) → Agrees history (said file) (said file)) → (outcome : Outcome)
    → Agrees history (OutcomeSays said outcome) (OutcomeSays said outcome)
outcomes_agree history said agree (Read file) other answer h g = agree file other answer h g
outcomes_agree history said agree (Bad row column) other answer h g = agree_same history other answer (h ∙ sym g)
outcomes_agree history said agree (Large limit) other answer h g = agree_same history other answer (h ∙ sym g)

pub bytes_agree : OneOutcome → (history : Type 0) (said : FileTree → Answer → Type 0) → ((file : FileTree) → Agrees history (said file) (said file)) → (bytes : List ℕ)
    → Agrees history (BytesSay said bytes) (BytesSay said bytes)
bytes_agree once history said agree bytes other answer h g =
    outcomes_agree history said agree h.0 other answer h.2 (subst (λ o. OutcomeSays said o answer) (once bytes g.0 h.0 g.1 h.1) g.2)

-- ---- the names

pub names_own : (said : Program → Answer → Type 0) → ((program : Program) → AreOwn (said program)) → (tree : ProgramTree) → AreOwn (NamesSay said tree)
names_own said own tree answer (inl h) = subst (λ a. IsOwn a.0) (sym h.told) tt
names_own said own tree answer (inr h) = own h.program answer h.says

no_name : (tree : ProgramTree) (answer : Answer) → IsToldName tree answer → program_faults tree ≡ [] → ⊥
no_name tree answer h none = first_none h.bad (subst (IsFirst h.bad) none h.first)

-- programs with the same rules and names
pub record AreAlike (one two : Program) : Type 0 where
  pub rules : rules_in one ≡ rules_in two
  pub names : one.names ≡ two.names

alike : (tree : ProgramTree) (one two : Program) → IsProgramOf tree one → IsProgramOf tree two → AreAlike one two
alike tree one two h g = record { rules = h.rules ∙ sym g.rules; names = h.names ∙ sym g.names }

pub names_agree : (history : Type 0) (said : Program → Answer → Type 0) → ((one two : Program) → AreAlike one two → Agrees history (said one) (said two))
    → (tree : ProgramTree) → Agrees history (NamesSay said tree) (NamesSay said tree)
names_agree history said agree tree other answer (inl h) (inl g) =
    agree_same history other answer (h.told ∙ (ap line_answer (first_line h.bad g.bad (program_faults tree) h.first g.first) ∙ sym g.told))
names_agree history said agree tree other answer (inl h) (inr g) = absurd (no_name tree other h g.is_program.faultless)
names_agree history said agree tree other answer (inr h) (inl g) = absurd (no_name tree answer g h.is_program.faultless)
names_agree history said agree tree other answer (inr h) (inr g) = agree h.program g.program (alike tree h.program g.program h.is_program g.is_program) other answer h.says g.says

-- ---- the scene

pub scene_own : (said : Scene → Answer → Type 0) → ((scene : Scene) → AreOwn (said scene)) → (program : Program) (written : SceneDecl) → AreOwn (SceneSays said program written)
scene_own said own program written answer (inl h) = subst (λ a. IsOwn a.0) (sym h.told) tt
scene_own said own program written answer (inr h) = own h.scene answer h.says

none_some : (bad : SceneError) → None ≡ Some bad → ⊥
none_some bad e = cc

same_bad : (a b : SceneError) → Some a ≡ Some b → a ≡ b
same_bad a b e = cc

faults_same : (one two : Program) (written : SceneDecl) → AreAlike one two → faults_of one written ≡ faults_of two written
faults_same one two written alike =
    ap (λ (p : Rules). scene_faults p one.names written) alike.rules ∙ ap (λ n. scene_faults (rules_in two) n written) alike.names

no_scene : (one two : Program) (written : SceneDecl) (answer : Answer) → AreAlike one two → IsToldScene one written answer → faults_of two written ≡ [] → ⊥
no_scene one two written answer alike h none = none_some h.bad (sym (ap first_of (faults_same one two written alike ∙ none)) ∙ h.first)

same_sign : (one two : Program) → AreAlike one two → AreAlike two one
same_sign one two h = record { rules = sym h.rules; names = sym h.names }

pub scene_valid : (program : Program) (written : SceneDecl) (scene : Scene) → IsSceneOf program written scene → IsValidScene (rules_in program) scene
scene_valid program written scene is =
    subst (IsValidScene (rules_in program)) (sym is.meant)
    (valid_scene (rules_in program) program.names written (scene_meaning program.names written) is.faultless refl refl refl refl refl)

pub scene_agree : (history : Type 0) (said : Program → Scene → Answer → Type 0) (one two : Program) → AreAlike one two
    → ((scene : Scene) → IsValidScene (rules_in one) scene → Agrees history (said one scene) (said two scene)) → (written : SceneDecl)
    → Agrees history (SceneSays (said one) one written) (SceneSays (said two) two written)
scene_agree history said one two alike agree written other answer (inl h) (inl g) =
    agree_same history other answer
    (h.told ∙ (ap (λ x. line_answer (line.BadScene x)) (same_bad h.bad g.bad (sym h.first ∙ (ap first_of (faults_same one two written alike) ∙ g.first))) ∙ sym g.told))
scene_agree history said one two alike agree written other answer (inl h) (inr g) = absurd (no_scene one two written other alike h g.is_scene.faultless)
scene_agree history said one two alike agree written other answer (inr h) (inl g) =
    absurd (no_scene two one written answer (same_sign one two alike) g h.is_scene.faultless)
scene_agree history said one two alike agree written other answer (inr h) (inr g) =
    let same : g.scene ≡ h.scene = g.is_scene.meant ∙ (ap (λ n. scene_meaning n written) (sym alike.names) ∙ sym h.is_scene.meant) in
    agree h.scene (scene_valid one written h.scene h.is_scene) other answer h.says (subst (λ s. said two s answer) same g.says)

pub placed_own : (said : Program → Scene → Answer → Type 0) → ((program : Program) (scene : Scene) → AreOwn (said program scene)) → (tree : ProgramTree) (written : SceneDecl)
    → AreOwn (PlacedSay said tree written)
placed_own said own tree written = names_own (λ program. SceneSays (said program) program written) (λ program. scene_own (said program) (own program) program written) tree

pub placed_agree : (history : Type 0) (said : Program → Scene → Answer → Type 0)
    → ((one two : Program) → AreAlike one two → (scene : Scene) → IsValidScene (rules_in one) scene → Agrees history (said one scene) (said two scene))
    → (tree : ProgramTree) (written : SceneDecl) → Agrees history (PlacedSay said tree written) (PlacedSay said tree written)
placed_agree history said agree tree written =
    names_agree history (λ program. SceneSays (said program) program written) (λ one two alike. scene_agree history said one two alike (agree one two alike) written) tree

-- ---- the verdict

pub verdict_own : (said : Kept → Answer → Type 0) → ((kept : Kept) (answer : Answer) → said kept answer → IsOfAccepted answer.0) → (program : Program) → AreOwn (VerdictSays said program)
verdict_own said own program answer (inl h) = refusal_own h.refused answer h.told
verdict_own said own program answer (inr h) = accepted_own answer.0 (own h.kept answer h.says)

-- it is accepted, and so is a program with the same rules
is_accepted : (one two : Program) (kept : Kept) → rules_in one ≡ rules_in two → IsKeptAs one kept → IsAccepted (rules_in two)
is_accepted one two kept same h = subst IsAccepted same h.may_be.accepted

pub verdict_agree : (history : Type 0) (said : Kept → Answer → Type 0) → ((kept : Kept) (answer : Answer) → said kept answer → IsOfAccepted answer.0)
    → (one two : Program) → AreAlike one two → ((kept other : Kept) → IsKeptAs one kept → IsKeptAs two other → Agrees history (said kept) (said other))
    → Agrees history (VerdictSays said one) (VerdictSays said two)
verdict_agree history said own one two alike agree other answer (inl h) (inl g) = refusals_agree history one two other answer h g
verdict_agree history said own one two alike agree other answer (inl h) (inr g) =
    refused_first history one other answer h (is_accepted two one g.kept (sym alike.rules) g.is_kept) (own g.kept answer g.says)
verdict_agree history said own one two alike agree other answer (inr h) (inl g) =
    refused_last history two other answer g (is_accepted one two h.kept alike.rules h.is_kept)
verdict_agree history said own one two alike agree other answer (inr h) (inr g) = agree h.kept g.kept h.is_kept g.is_kept other answer h.says g.says

-- ---- the parts

takes_own : {A : Type 0} (word : List ℕ) (said : A → Program → Scene → Answer → Type 0) → ((part : A) (program : Program) (scene : Scene) → AreOwn (said part program scene))
    → (tree : ProgramTree) (taken : Option (SceneDecl × A)) → AreOwn (TakesSay word said tree taken)
takes_own word said own tree None answer h = subst (λ a. IsOwn a.0) (sym h) tt
takes_own word said own tree (Some (written, part)) answer h = placed_own (said part) (own part) tree written answer h

pub parts_own : {A : Type 0} (word : List ℕ) (parts : FileTree → Option (SceneDecl × A)) (said : A → Program → Scene → Answer → Type 0)
    → ((part : A) (program : Program) (scene : Scene) → AreOwn (said part program scene)) → (bytes : List ℕ) → AreOwn (PartsSay word parts said bytes)
parts_own word parts said own bytes =
    bytes_own (λ file. TakesSay word said file.program (parts file)) (λ file. takes_own word said own file.program (parts file)) bytes

takes_agree : {A : Type 0} (history : Type 0) (word : List ℕ) (said : A → Program → Scene → Answer → Type 0)
    → ((part : A) (one two : Program) → AreAlike one two → (scene : Scene) → IsValidScene (rules_in one) scene → Agrees history (said part one scene) (said part two scene))
    → (tree : ProgramTree) (taken : Option (SceneDecl × A)) → Agrees history (TakesSay word said tree taken) (TakesSay word said tree taken)
takes_agree history word said agree tree None other answer h g = agree_same history other answer (h ∙ sym g)
takes_agree history word said agree tree (Some (written, part)) other answer h g = placed_agree history (said part) (agree part) tree written other answer h g

pub parts_agree : {A : Type 0} → OneOutcome → (history : Type 0) (word : List ℕ) (parts : FileTree → Option (SceneDecl × A)) (said : A → Program → Scene → Answer → Type 0)
    → ((part : A) (one two : Program) → AreAlike one two → (scene : Scene) → IsValidScene (rules_in one) scene → Agrees history (said part one scene) (said part two scene))
    → (bytes : List ℕ) → Agrees history (PartsSay word parts said bytes) (PartsSay word parts said bytes)
parts_agree once history word parts said agree bytes =
    bytes_agree once history (λ file. TakesSay word said file.program (parts file)) (λ file. takes_agree history word said agree file.program (parts file)) bytes

pub program_own : (said : Program → Answer → Type 0) → ((program : Program) → AreOwn (said program)) → (bytes : List ℕ) → AreOwn (ProgramSays said bytes)
program_own said own bytes = bytes_own (λ file. NamesSay said file.program) (λ file. names_own said own file.program) bytes

pub program_agree : OneOutcome → (history : Type 0) (said : Program → Answer → Type 0) → ((one two : Program) → AreAlike one two → Agrees history (said one) (said two))
    → (bytes : List ℕ) → Agrees history (ProgramSays said bytes) (ProgramSays said bytes)
program_agree once history said agree bytes = bytes_agree once history (λ file. NamesSay said file.program) (λ file. names_agree history said agree file.program) bytes
