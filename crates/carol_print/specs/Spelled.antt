-- The tokens that a file's canonical text spells are read as the file.
use Rattle.std.specs.Prelude.{ℕ, List, None}
use Rattle.carol_syntax.specs.Files.{FileTree}
use Rattle.carol_syntax.specs.Unplaced.{SameButPlaces}
use Rattle.carol_syntax.specs.Shape.{IsFile}
use Rattle.carol_syntax.specs.declared.lexeme.Lexeme.{Lexeme}
use Rattle.carol_print.specs.Pieces.{tokens_in, Spells}
use Rattle.carol_print.specs.Canonical.{canonical}
use Rattle.carol_grammar.specs.Rules.{IsFileOf}

-- a canonical text ends before a transcript
abbrev pub without_tail : FileTree → FileTree
without_tail f = record f { tail = None }

-- the tokens are a file whose tree is this one, but for places and a transcript
abbrev pub IsReadAs : List ℕ → ℕ → List Lexeme → FileTree → Type 0
IsReadAs bytes tail list f = (g : FileTree) × IsFileOf bytes tail list g × SameButPlaces g (without_tail f)

-- of each tree of the grammar: in any bytes, the tokens that its canonical text spells are read as
-- the tree
abbrev pub CanonicalIsRead : Type 0
CanonicalIsRead = (f : FileTree) → IsFile f → (bytes : List ℕ) (tail : ℕ) (list : List Lexeme) → Spells bytes list (tokens_in (canonical f)) → IsReadAs bytes tail list f
