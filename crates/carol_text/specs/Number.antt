-- Whole numbers in decimal, read from the front of a text. They are spelled as std's `decimal` and
-- `signed_decimal` spell them: no leading zero, no plus, and no minus before a zero.
use Rattle.std.specs.Prelude.{ℕ, zero, suc, ◌+◌, ◌-◌, ◌*◌, ◌≤◌, Bool, false, List, [], ◌∷◌, length, ℤ, pos, negsuc, Ok, Err, ◌==◌, nat_le, if◌then◌else◌}
use Rattle.std.specs.Char.{is_ascii_digit}
use Rattle.carol_text.specs.Reading.{Reading, ◌>>=◌}

-- The text begins with a digit.
abbrev pub starts_with_digit : List ℕ → Bool
starts_with_digit [] = false
starts_with_digit (c ∷ cs) = is_ascii_digit c

-- The number that the digits so far, those of n, and the digits at the front make together. A digit
-- with which it passes `most` is bad.
unfoldable pub digits_after : ℕ → ℕ → List ℕ → Reading ℕ
digits_after most n [] = Ok (n, [])
digits_after most n (c ∷ cs) = if is_ascii_digit c
    then (if nat_le (10 * n + (c - 48)) most then digits_after most (10 * n + (c - 48)) cs else Err (suc (length cs)))
    else Ok (n, c ∷ cs)

-- A number of at most `most`. A zero at the front is the whole number.
unfoldable pub number_at : ℕ → List ℕ → Reading ℕ
number_at most [] = Err 0
number_at most (c ∷ cs) = if c == 48 then Ok (0, cs)
    else (if is_ascii_digit c then digits_after most 0 (c ∷ cs) else Err (suc (length cs)))

-- The negative of a number, which may not be the zero that stands at the front of `left` bytes.
abbrev pub negative : ℕ → ℕ → List ℕ → Reading ℤ
negative left zero rest = Err left
negative left (suc n) rest = Ok (negsuc n, rest)

-- A whole number of at most `highest`, without a sign.
abbrev pub unsigned_at : ℕ → List ℕ → Reading ℤ
unsigned_at highest bytes = number_at highest bytes >>= λ x. Ok (pos x.0, x.1)

-- What stands after a minus: a number of at most `deepest`, and not 0.
abbrev pub below_zero_at : ℕ → List ℕ → Reading ℤ
below_zero_at deepest bytes = number_at deepest bytes >>= λ x. negative (length bytes) x.0 x.1

-- A whole number with its sign, of an absolute value of at most `deepest` below zero and `highest`
-- above it.
unfoldable pub integer_at : ℕ → ℕ → List ℕ → Reading ℤ
integer_at deepest highest [] = Err 0
integer_at deepest highest (c ∷ cs) = if c == 45 then below_zero_at deepest cs else unsigned_at highest (c ∷ cs)

-- What such a whole number keeps to.
abbrev pub IsWithin : ℕ → ℕ → ℤ → Type 0
IsWithin deepest highest (pos n) = n ≤ highest
IsWithin deepest highest (negsuc n) = suc n ≤ deepest
