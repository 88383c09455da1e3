-- How many live grants pass a test of their guards.
use Rattle.std.specs.Prelude.{ℕ, ◌+◌, Bool, ◌&&◌, if◌then◌else◌, List, [], ◌∷◌}

-- how many guards of one session's row are live and pass; the row's first guard has this number
abbrev pub count_row : (ℕ → Bool) → ℕ → List Bool → ℕ
count_row passes first [] = 0
count_row passes first (live ∷ row) =
    (if live && passes first then 1 else 0) + count_row passes (first + 1) row

-- how many are live and pass in all rows
abbrev pub count_rows : (ℕ → Bool) → List (List Bool) → ℕ
count_rows passes [] = 0
count_rows passes (row ∷ rows) = count_row passes 0 row + count_rows passes rows
