-- That a printed text is read back.
use Rattle.std.specs.Prelude.{List, ℕ}
use Rattle.carol_syntax.specs.Files.{FileTree}
use Rattle.carol_syntax.specs.Unplaced.{SameButPlaces}
use Rattle.carol_syntax.specs.Shape.{IsFile}
use Rattle.carol_grammar.specs.Outcome.{Outcome, Read, Bad, Large, IsText, Means}
use Rattle.carol_print.specs.Pieces.{text_of}
use Rattle.carol_print.specs.Canonical.{canonical}
use Rattle.carol_print.specs.Spelled.{without_tail}
use Rattle.carol_print.specs.Small.{IsSmall}

-- the bytes are a file with this tree, but for places and a transcript
abbrev pub IsTextOf : List ℕ → FileTree → Type 0
IsTextOf bytes f = (g : FileTree) × IsText bytes g × SameButPlaces g (without_tail f)

-- reading comes to this tree, but for places and a transcript, or to a limit, where the tree isn't
-- small
abbrev pub IsBack : FileTree → Outcome → Type 0
IsBack f (Read g) = SameButPlaces g (without_tail f)
IsBack f (Bad line column) = ⊥
IsBack f (Large limit) = ¬ IsSmall f

-- whatever the bytes are answered
abbrev pub IsReadBack : List ℕ → FileTree → Type 0
IsReadBack bytes f = (outcome : Outcome) → Means bytes outcome → IsBack f outcome

-- the canonical text of a small tree of the grammar passes no limit: it is read as this tree, but
-- for places and a transcript
abbrev pub SmallIsRead : Type 0
SmallIsRead =
    (f : FileTree) → IsFile f → IsSmall f → (g : FileTree) × Means (text_of (canonical f)) (Read g) × SameButPlaces g (without_tail f)
