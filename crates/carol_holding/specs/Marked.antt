-- Which entries are marked in a list of words.
use Rattle.std.specs.Prelude.{◌≡◌, ℕ, ◌<◌, ◌/◌, ◌%◌, Bool, true, false, ◌==◌, List, get_or, Option, Some, None}
use Rattle.std.specs.Int.{bit_at}

-- the entry's bit is set, where each word has 64
unfoldable pub is_marked : List ℕ → ℕ → Bool
is_marked words entry = bit_at (get_or words (entry / 64) 0) (entry % 64) == 1

-- the lowest entry that is marked in the one and not in the other; none where there is none
abbrev pub IsFirstBeyond : List ℕ → List ℕ → Option ℕ → Type 0
IsFirstBeyond mine theirs None =
    (i : ℕ) → is_marked mine i ≡ true → is_marked theirs i ≡ true
IsFirstBeyond mine theirs (Some e) =
    (is_marked mine e ≡ true) × (is_marked theirs e ≡ false)
    × ((i : ℕ) → i < e → is_marked mine i ≡ true → is_marked theirs i ≡ true)
