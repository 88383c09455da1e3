-- The values of a store beside one another, each in a column as wide as the name of its cell asks.
use Rattle.std.specs.Prelude.{ℕ, ◌+◌, ◌-◌, min, max, List, [], ◌∷◌, ◌++◌, length, flat_map, replicate}
use Rattle.std.specs.Fmt.{signed_decimal}
use Rattle.std.specs.List.{sum_by}
use Rattle.carol_store.specs.Kinds.{CellValue}

-- how many characters the column of the cell with this name has, from 8 to 24, and all of them
-- together
abbrev pub width : List ℕ → ℕ
width name = min (max (length name + 2) 8) 24

abbrev pub row_width : List (List ℕ) → ℕ
row_width cells = sum_by width cells

-- a text in the column of the cell with this name, with spaces in front
unfoldable pub padded : List ℕ → List ℕ → List ℕ
padded name text = replicate (width name - length text) 32 ++ text

-- the names themselves, nothing, and the values of a store
abbrev pub name_row : List (List ℕ) → List ℕ
name_row cells = flat_map (λ name. padded name name) cells

abbrev pub blank_row : List (List ℕ) → List ℕ
blank_row cells = flat_map (λ name. padded name []) cells

abbrev pub store_row : List (List ℕ) → List CellValue → List ℕ
store_row (name ∷ cells) (value ∷ values) =
    padded name (signed_decimal value) ++ store_row cells values
store_row cells values = []
