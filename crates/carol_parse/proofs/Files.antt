-- Files.
use Rattle.std.proofs.Common.{ℕ, List, [], Option, refl}
use Rattle.std.specs.Prelude.{Some, None, IfSome}
use Rattle.std.specs.List.{AllByRecursion}
use Rattle.carol_grammar.specs.Rule.{upper}
use Rattle.carol_grammar.proofs.Says.{says_either, says_begins, says_all}
use Rattle.carol_grammar.proofs.Given.{hold_any, hold_gives, hold_both, hold_perhaps}
use Rattle.carol_syntax.specs.declared.scenes.SceneDecl.{SceneDecl}
use Rattle.carol_syntax.specs.Files.{ProgramTree, FileTree}
use Rattle.carol_syntax.specs.Shape.{IsLine, IsProgram, IsScene, IsFile}
use Rattle.carol_syntax.specs.declared.lexeme.Lexeme.{Lexeme}
use Rattle.carol_grammar.specs.Rules.{Knot, literal, ending, Sequel, Scripted, Recorded, carol, lowest_of, sequel, some_sequel, staged, some_stage, with_sequel, file_of, file, IsFileOf}
use Rattle.carol_parse.proofs.Holds.{AreSpelled, stand_spelled, Fits, AllFit, Holds}
use Rattle.carol_parse.proofs.Formulas.{hold_atom_literal, hold_nested}
use Rattle.carol_parse.proofs.ShapedBodies.{hold_answer, hold_choice}
use Rattle.carol_parse.proofs.ShapedPrograms.{hold_program}
use Rattle.carol_parse.proofs.Scenes.{hold_scene, hold_script}

abbrev IsSequel : Sequel → Type 0
IsSequel (Scripted lines) = AllByRecursion IsLine lines
IsSequel Recorded = Unit {0}

abbrev IsStage : SceneDecl × Option Sequel → Type 0
IsStage s = IsScene s.0 × IfSome s.1 IsSequel

with_sequel_of : (tail : ℕ) (p : ProgramTree) (s : SceneDecl) (o : Option Sequel) → IsProgram p → IsScene s → IfSome o IsSequel
    → IsFile (with_sequel tail p s o)
with_sequel_of tail p s None h g r =
    record { program = h; scene = g; script = tt; parts = (λ e. absurd cc, λ e. absurd cc) }
with_sequel_of tail p s (Some (Scripted lines)) h g r =
    record { program = h; scene = g; script = r; parts = (λ e. (refl, refl), λ e. absurd cc) }
with_sequel_of tail p s (Some Recorded) h g r =
    record { program = h; scene = g; script = tt; parts = (λ e. absurd cc, λ e. refl) }

whole_of : (tail : ℕ) (p : ProgramTree) (o : Option (SceneDecl × Option Sequel)) → IsProgram p → IfSome o IsStage
    → IsFile (file_of tail p o)
whole_of tail p None h g = record { program = h; scene = tt; script = tt; parts = (λ e. absurd cc, λ e. absurd cc) }
whole_of tail p (Some s) h g = with_sequel_of tail p s.0 s.1 h g.0 g.1

module _ {bytes : List ℕ} where
  hold_sequel : Holds bytes sequel IsSequel
  unfolding sequel
  hold_sequel = says_either (says_begins (hold_gives hold_script (λ s h. h))) (hold_gives hold_any (λ l h. tt))

  hold_some_sequel : Holds bytes some_sequel (λ o. IfSome o IsSequel)
  unfolding some_sequel
  hold_some_sequel = hold_perhaps (says_begins hold_sequel)

  hold_staged : Holds bytes (staged bytes) IsStage
  unfolding staged
  hold_staged = hold_both hold_scene hold_some_sequel

  hold_some_stage : Holds bytes (some_stage bytes) (λ o. IfSome o IsStage)
  unfolding some_stage
  hold_some_stage = hold_perhaps (says_begins hold_staged)

  hold_file : (tail : ℕ) → Holds bytes (file bytes tail) IsFile
  unfolding file
  hold_file tail = hold_gives (hold_both hold_program hold_some_stage) (λ p h. whole_of tail p.0 p.1 h.0 h.1)

-- the values of the rules that reach themselves fit, at the lowest level and above
hold_lowest : (bytes : List ℕ) (v : Knot) → Holds bytes (lowest_of bytes v) (Fits v)
hold_lowest bytes literal = hold_atom_literal
hold_lowest bytes ending = hold_answer

hold_upper : (bytes : List ℕ) (v : Knot) → Holds bytes (upper (carol bytes) v) (Fits v)
hold_upper bytes literal = says_either (says_begins hold_nested) hold_atom_literal
hold_upper bytes ending = says_either (says_begins hold_choice) hold_answer

pub file_shaped : (bytes : List ℕ) (tail : ℕ) (ts : List Lexeme) (f : FileTree) → AreSpelled bytes ts → IsFileOf bytes tail ts f
    → IsFile f
file_shaped bytes tail ts f g s =
    let told = says_all (carol bytes) (AllFit bytes) (hold_lowest bytes) (hold_upper bytes) (hold_file tail) ts f s in
    told.holds [] tt (stand_spelled bytes ts [] (record { latest = tt }) g)
