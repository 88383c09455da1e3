-- The token that a text begins with: the longest run of its class is taken, and then judged.
use Rattle.std.specs.Prelude.{ℕ, ◌-◌, Bool, false, ◌==◌, nat_lt, if◌then◌else◌, List, [], ◌∷◌, length, Option, Some, None, take_while, Result, Ok, Err}
use Rattle.std.specs.Char.{is_ascii_digit}
use Rattle.carol_text.specs.Number.{number_at, starts_with_digit}
use Rattle.carol_syntax.specs.Limits.{largest, longest_name}
use Rattle.carol_syntax.specs.Words.{is_small_letter, is_word_byte}
use Rattle.carol_syntax.specs.declared.kind.Kind.{Kind}
use Rattle.carol_syntax.specs.declared.kind.Kind.TheVariants as k
use Rattle.carol_syntax.specs.declared.found.Found.{Found}
use Rattle.carol_syntax.specs.Keywords.{kind_of_word}

-- the text begins with a word byte
abbrev pub starts_word : List ℕ → Bool
starts_word [] = false
starts_word (b ∷ bytes) = is_word_byte b

-- a run of word bytes is a name or a keyword, unless it is too long
abbrev pub judged_word : List ℕ → Option Found
judged_word word =
    if nat_lt longest_name (length word) then None
    else Some (record { kind = kind_of_word word; value = 0; length = length word })

-- a run of digits is a number, unless it is too great or begins with a zero that is not all of it
abbrev pub judged_number : List ℕ → Result (ℕ × List ℕ) ℕ → Option Found
judged_number bytes (Err _) = None
judged_number bytes (Ok x) =
    if starts_with_digit x.1 then None
    else Some (record { kind = k.Number; value = x.0; length = length bytes - length x.1 })

abbrev pub symbol : Kind → ℕ → Option Found
symbol kind length = Some (record { kind = kind; value = 0; length = length })

-- the longer symbol where `=` comes next
abbrev pub with_equals : List ℕ → Option Found → Option Found → Option Found
with_equals [] longer shorter = shorter
with_equals (c ∷ bytes) longer shorter = if c == 61 then longer else shorter

-- the symbol that begins with the byte b before the bytes
abbrev pub first_symbol : ℕ → List ℕ → Option Found
first_symbol b bytes =
    if b == 59 then symbol k.Semicolon 1 else (
    if b == 58 then symbol k.Colon 1 else (
    if b == 44 then symbol k.Comma 1 else (
    if b == 46 then symbol k.Dot 1 else (
    if b == 40 then symbol k.Opening 1 else (
    if b == 41 then symbol k.Closing 1 else (
    if b == 123 then symbol k.OpeningBrace 1 else (
    if b == 125 then symbol k.ClosingBrace 1 else (
    if b == 61 then symbol k.Equals 1 else (
    if b == 42 then symbol k.Star 1 else (
    if b == 43 then with_equals bytes (symbol k.PlusEquals 2) (symbol k.Plus 1) else (
    if b == 45 then with_equals bytes (symbol k.MinusEquals 2) (symbol k.Minus 1) else (
    if b == 60 then with_equals bytes (symbol k.AtMost 2) (symbol k.Below 1) else (
    if b == 62 then with_equals bytes (symbol k.AtLeast 2) (symbol k.Above 1) else (
    if b == 33 then with_equals bytes (symbol k.Differs 2) None else None))))))))))))))

-- None where no token begins with the first byte
unfoldable pub first_token : List ℕ → Option Found
first_token [] = None
first_token (b ∷ bytes) =
    if is_small_letter b then judged_word (take_while is_word_byte (b ∷ bytes))
    else (if is_ascii_digit b then judged_number (b ∷ bytes) (number_at largest (b ∷ bytes))
    else first_symbol b bytes)
