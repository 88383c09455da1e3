-- Pieces one list after the other.
use Rattle.std.proofs.Common.{◌≡◌, ℕ, List, [], ◌∷◌, ◌++◌, refl, append_assoc}
use Rattle.carol_print.specs.Pieces.{Piece, text_of, AreLaidBefore}
use Rattle.carol_print.specs.Pieces.Piece.{Token, Space, Break}

pub text_of_both : (first second : List Piece) → text_of (first ++ second) ≡ text_of first ++ text_of second
text_of_both [] second = refl
text_of_both (Token kind value spelled ∷ first) second = rw (text_of_both first second, append_assoc) refl
text_of_both (Space ∷ first) second = rw (text_of_both first second) refl
text_of_both (Break ∷ first) second = rw (text_of_both first second) refl

pub laid_before_both : (bytes : List ℕ) (first second : List Piece) → AreLaidBefore (text_of second ++ bytes) first → AreLaidBefore bytes second → AreLaidBefore bytes (first ++ second)
laid_before_both bytes [] second one two = two
laid_before_both bytes (Token kind value spelled ∷ first) second one two =
    (one.0, one.1, rw (text_of_both first second, append_assoc) one.2, laid_before_both bytes first second one.3 two)
laid_before_both bytes (Space ∷ first) second one two = laid_before_both bytes first second one two
laid_before_both bytes (Break ∷ first) second one two = laid_before_both bytes first second one two
