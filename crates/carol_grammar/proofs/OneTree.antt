use Rattle.std.proofs.Common.{◌≡◌, ℕ, ◌+◌, List, [], ◌∷◌, length, sym, ◌∙◌, subst, arith}
use Rattle.std.proofs.lemmas.List.{append-nil}
use Rattle.carol_grammar.specs.Reading.{Reading}
use Rattle.carol_grammar.specs.Reading.Reading.{got, stuck}
use Rattle.carol_grammar.specs.Found.{Answers}
use Rattle.carol_grammar.proofs.Answered.{answered}
use Rattle.carol_syntax.specs.Files.{FileTree}
use Rattle.carol_syntax.specs.declared.lexeme.Lexeme.{Lexeme}
use Rattle.carol_grammar.specs.Rules.{Knot, KnotValue, carol, file, IsFileOf, read_file}
use Rattle.carol_grammar.proofs.RulesSound.{sound, file_sound}

pub reading_answers : (bytes : List ℕ) (tail : ℕ) (ts : List Lexeme) → Answers (carol bytes) (file bytes tail) ts (read_file bytes tail ts)
reading_answers bytes tail ts = answered Lexeme Knot KnotValue (carol bytes) (sound bytes) FileTree (file bytes tail) (file_sound bytes tail) (length ts + 1) ts (omega arith)

along : (bytes : List ℕ) (tail : ℕ) (ts : List Lexeme) (r : Reading Lexeme FileTree) → Answers (carol bytes) (file bytes tail) ts r → (f g : FileTree) → IsFileOf bytes tail ts f → IsFileOf bytes tail ts g → f ≡ g
along bytes tail ts (got v rest) a f g s s' = a.1.only f s ∙ sym (a.1.only g s')
along bytes tail ts (stuck []) a f g s s' = absurd (a.none f (subst (λ z. IsFileOf bytes tail z f) (a.split ∙ append-nil a.front) s))
along bytes tail ts (stuck (t ∷ more)) a f g s s' = absurd (a.none more f (subst (λ z. IsFileOf bytes tail z f) a.split s))

pub one_tree : (bytes : List ℕ) (tail : ℕ) (ts : List Lexeme) (f g : FileTree) → IsFileOf bytes tail ts f → IsFileOf bytes tail ts g → f ≡ g
one_tree bytes tail ts f g s s' = along bytes tail ts (read_file bytes tail ts) (reading_answers bytes tail ts) f g s s'
