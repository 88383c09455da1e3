-- The law that joins the counts of the limits with the grammar.
use Rattle.std.specs.Prelude.{ℕ, ◌≤◌, List, length}
use Rattle.carol_syntax.specs.Files.{FileTree}
use Rattle.carol_syntax.specs.Size.{IsSized}
use Rattle.carol_syntax.specs.declared.lexeme.Lexemes.{Lexemes}
use Rattle.carol_syntax.specs.Cut.{StandBetween}
use Rattle.carol_grammar.specs.Outcome.{IsRead}

-- What is read of a text whose tokens stand one behind the other within its bytes is as small as
-- the limits make it.
abbrev pub ReadIsSized : Type 0
ReadIsSized = (bytes : List ℕ) (parts : Lexemes) (f : FileTree) → StandBetween 0 parts.list parts.end.offset
    → parts.end.offset ≤ length bytes → IsRead bytes parts f → IsSized f
