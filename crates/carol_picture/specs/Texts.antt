-- Words with numbers and names behind them, and how an image's text is written.
use Rattle.std.specs.Prelude.{ℕ, ◌==◌, if◌then◌else◌, List, [], ◌∷◌, ◌++◌, codes, flat_map, slice_get, unwrap_or}
use Rattle.std.specs.Fmt.{decimal}

-- a word, and a number behind it
unfoldable pub numbered : List ℕ → ℕ → List ℕ
numbered word number = word ++ decimal number

-- the name with this number; none has no bytes
abbrev pub name_at : List (List ℕ) → ℕ → List ℕ
name_at names number = unwrap_or (slice_get names number) []

-- a word, and the name with this number behind it
unfoldable pub named : List ℕ → List (List ℕ) → ℕ → List ℕ
named word names number = word ++ name_at names number

-- what would be taken for a tag or a reference stands by its name
unfoldable pub escaped_byte : ℕ → List ℕ
escaped_byte byte =
    if byte == 38 then codes "&amp;"
    else if byte == 60 then codes "&lt;"
    else if byte == 62 then codes "&gt;" else byte ∷ []

abbrev pub escaped : List ℕ → List ℕ
escaped bytes = flat_map escaped_byte bytes
