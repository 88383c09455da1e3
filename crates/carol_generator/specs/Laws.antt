-- What holds of the generated file.
use Rattle.std.specs.Prelude.{◌≡◌, ◌≤◌, ℕ, [], Some, None}
use Rattle.carol_syntax.specs.declared.scenes.SceneDecl.{SceneDecl}
use Rattle.carol_syntax.specs.Files.{FileTree}
use Rattle.carol_syntax.specs.Unplaced.{SameButPlaces}
use Rattle.carol_grammar.specs.Outcome.{Read, Means}
use Rattle.carol_meaning.specs.Programs.{program_faults, rules_of, names_of}
use Rattle.carol_scenario.specs.Faults.{scene_faults}
use Rattle.carol_generator.specs.Generated.{bank, generated_file, generated_text}

-- the text is read as the file, but for places
abbrev pub GeneratedIsRead : Type 0
GeneratedIsRead = (n : ℕ) → (g : FileTree) × Means (generated_text n) (Read g) × SameButPlaces g (generated_file n)

-- nothing is wrong with the names of the file's program, which is the bank's, nor with its scene,
-- its last part
pub record IsFaultless (file : FileTree) : Type 0 where
  pub named : program_faults file.program ≡ []
  pub rules : rules_of file.program ≡ rules_of bank
  pub scene : SceneDecl
  pub stands : file.scene ≡ Some scene
  pub placed : scene_faults (rules_of file.program) (names_of file.program) scene ≡ []
  pub no_script : file.script ≡ None
  pub no_tail : file.tail ≡ None

-- so it is with the generated file of up to 256 commands a session, wherever its parts stand
abbrev pub GeneratedIsFaultless : Type 0
GeneratedIsFaultless = (n : ℕ) → n ≤ 256 → (g : FileTree) → SameButPlaces g (generated_file n) → IsFaultless g
