-- The lines of a text, and the first at which two texts differ.
use Rattle.std.specs.Prelude.{◌≡◌, ◌≢◌, ℕ, ◌+◌, Bool, true, not, ◌==◌, ◌&&◌, if◌then◌else◌, List, [], ◌∷◌, take, slice_get, Option, Some, None}

-- no byte is a line feed
abbrev pub has_no_feed : List ℕ → Bool
has_no_feed [] = true
has_no_feed (byte ∷ bytes) = not (byte == 10) && has_no_feed bytes

abbrev pub HasNoFeed : List ℕ → Type 0
HasNoFeed bytes = has_no_feed bytes ≡ true

-- the byte stands in front of the first line
abbrev pub in_front : ℕ → List (List ℕ) → List (List ℕ)
in_front byte [] = (byte ∷ []) ∷ []
in_front byte (line ∷ lines) = (byte ∷ line) ∷ lines

-- the lines of a text, each with its line feed; what stands behind the last one is a line too
abbrev pub lines : List ℕ → List (List ℕ)
lines [] = []
lines (byte ∷ bytes) = if byte == 10 then (10 ∷ []) ∷ lines bytes else in_front byte (lines bytes)

-- the line with this number, counted from 1, is the first that differs; a line that one of the
-- texts has and the other lacks differs
pub record IsFirstFalseLine (right text : List ℕ) (number : ℕ) : Type 0 where
  pub before : ℕ
  pub counted : number ≡ before + 1
  pub same : take before (lines right) ≡ take before (lines text)
  pub differ : slice_get (lines right) before ≢ slice_get (lines text) before

-- the number of the line that the next byte stands in
abbrev pub next_number : ℕ → ℕ → ℕ
next_number number byte = if byte == 10 then number + 1 else number

-- the same byte by byte: the number of the line in which the texts part, if their first bytes stand
-- in this line
abbrev pub parting : ℕ → List ℕ → List ℕ → Option ℕ
parting number [] [] = None
parting number [] (other ∷ text) = Some number
parting number (byte ∷ right) [] = Some number
parting number (byte ∷ right) (other ∷ text) =
    if byte == other then parting (next_number number byte) right text else Some number
