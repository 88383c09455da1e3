-- What is kept of one replica.
use Rattle.std.specs.Prelude.{◌≡◌, ℕ, ◌+◌, ◌-◌, ◌*◌, ◌<◌, ◌≤◌, zero, suc, Bool, true, false, if◌then◌else◌, List, [], ◌∷◌, length, map, Option, Some, None}
use Rattle.carol_holding.specs.declared.row.TheConstants.{MOST_ENTRIES, MOST_WORDS}
use Rattle.carol_holding.specs.Held.{HeldBy, has_entry}
use Rattle.carol_holding.specs.Marked.{is_marked}

-- what the replica holds, and whether there is room for any entry
pub record HeldRow : Type 0 where
  pub held : HeldBy
  pub has_room : Bool

-- those of so many entries, from this one on, that are marked
unfoldable pub marked_from : List ℕ → ℕ → ℕ → List ℕ
marked_from words least zero = []
marked_from words least (suc count) =
    if is_marked words least then least ∷ marked_from words (least + 1) count
    else marked_from words (least + 1) count

-- what a replica with this front holds, where its entries are marked in these words
abbrev pub held_of : ℕ → List ℕ → HeldBy
held_of front words = record {
  front = front;
  above = marked_from words (front + 1) (64 * length words - (front + 1));
}

-- the front is the lowest entry that isn't marked
pub record IsKept (front : ℕ) (words : List ℕ) : Type 0 where
  pub below : (i : ℕ) → i < front → is_marked words i ≡ true
  pub lacks : is_marked words front ≡ false
  pub within : front ≤ MOST_ENTRIES
  pub few : length words ≤ MOST_WORDS

-- nothing is held
abbrev pub nothing : HeldBy
nothing = record { front = 0; above = [] }

-- the lowest entry that the one holds and the other lacks; none where there is none
abbrev pub IsFirstLacked : HeldBy → HeldBy → Option ℕ → Type 0
IsFirstLacked mine theirs None = (i : ℕ) → has_entry mine i ≡ true → has_entry theirs i ≡ true
IsFirstLacked mine theirs (Some e) =
    (has_entry mine e ≡ true) × (has_entry theirs e ≡ false)
    × ((i : ℕ) → i < e → has_entry mine i ≡ true → has_entry theirs i ≡ true)

-- what the rows say of their replicas
abbrev pub held_by : List HeldRow → List HeldBy
held_by rows = map (λ row. row.held) rows

-- each row has room for any entry
abbrev pub HaveRoom : List HeldRow → Type 0
HaveRoom [] = Unit {0}
HaveRoom (row ∷ rows) = (row.has_room ≡ true) × HaveRoom rows
