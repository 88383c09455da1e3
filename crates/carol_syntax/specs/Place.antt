-- Places in a text, and what stands between tokens.
use Rattle.std.specs.Prelude.{ℕ, ◌+◌, ◌≤◌, Bool, true, false, not, ◌||◌, ◌==◌, if◌then◌else◌, List, [], ◌∷◌, Option, Some, None}
use Rattle.carol_syntax.specs.declared.places.Span.{Span}
use Rattle.carol_syntax.specs.declared.place.Place.{Place}

-- the first byte of a text
abbrev pub start : Place
start = record { line = 1; column = 1; offset = 0 }

-- behind a number of bytes without a line feed
abbrev pub place_over : Place → ℕ → Place
place_over at count = record at { column = at.column + count; offset = at.offset + count }

-- behind one byte
abbrev pub place_behind : Place → ℕ → Place
place_behind at byte = if byte == 10 then record { line = at.line + 1; column = 1; offset = at.offset + 1 } else place_over at 1

abbrev pub span_of : Place → Span
span_of at = record { line = at.line; column = at.column }

-- a space, a tab, a line feed or a carriage return
abbrev pub is_blank : ℕ → Bool
is_blank b = b == 32 || b == 9 || b == 10 || b == 13

-- the byte belongs to a space or a comment, and then whether a comment goes on behind it; the flag
-- says that one goes on before it
abbrev pub passes : Bool → ℕ → Option Bool
passes true b = Some (not (b == 10))
passes false b = if is_blank b then Some false else (if b == 35 then Some true else None)

-- what is left behind spaces and comments, and where it begins
unfoldable pub past_space : Bool → Place → List ℕ → Place × List ℕ
past_space comment at [] = (at, [])
past_space comment at (b ∷ bs) = elim (passes comment b) [ None ↦ (at, b ∷ bs) | Some goes_on ↦ past_space goes_on (place_behind at b) bs ]

-- line and column do not run ahead of the offset
pub record IsCounted (at : Place) : Type 0 where
  pub line : at.line ≤ at.offset + 1
  pub column : at.column ≤ at.offset + 1
