-- Who holds which entries of a journal, by their numbers from 0.
use Rattle.std.specs.Prelude.{◌≡◌, ℕ, ◌+◌, ◌<◌, ◌≤◌, zero, suc, Bool, true, false, ◌==◌, nat_lt, ◌&&◌, ◌||◌, List, [], ◌∷◌, length, Option, Some, None}

-- what one replica holds: all entries below the front, and these above it
pub record HeldBy : Type 0 where
  pub front : ℕ
  pub above : List ℕ

-- what each replica holds, and how many entries can be added before memory is taken again
pub record Holding : Type 0 where
  pub replicas : List HeldBy
  pub spare : ℕ

-- the entry is one of those
abbrev pub is_listed : List ℕ → ℕ → Bool
is_listed [] entry = false
is_listed (e ∷ es) entry = (e == entry) || is_listed es entry

-- the replica that holds these holds the entry
abbrev pub has_entry : HeldBy → ℕ → Bool
has_entry held entry = nat_lt entry held.front || is_listed held.above entry

-- the same of the replica with this number; false for one that isn't there
abbrev pub has_at : List HeldBy → ℕ → ℕ → Bool
has_at [] replica entry = false
has_at (held ∷ others) zero entry = has_entry held entry
has_at (held ∷ others) (suc replica) entry = has_at others replica entry

-- the replica holds the entry
abbrev pub holds : Holding → ℕ → ℕ → Bool
holds holding replica entry = has_at holding.replicas replica entry

-- the replica holds that entry too, and nothing else changed; one entry less can be added
pub record Adds (old : Holding) (replica entry : ℕ) (new : Holding) : Type 0 where
  pub each : (r i : ℕ) → holds new r i ≡ (((entry == i) && (replica == r)) || holds old r i)
  pub count : length new.replicas ≡ length old.replicas
  pub spare : old.spare ≤ new.spare + 1

-- the lowest entry that the one replica holds and the other lacks; none where there is none
abbrev pub IsFirstMissing : Holding → ℕ → ℕ → Option ℕ → Type 0
IsFirstMissing h from to None = (i : ℕ) → holds h from i ≡ true → holds h to i ≡ true
IsFirstMissing h from to (Some e) =
    (holds h from e ≡ true) × (holds h to e ≡ false)
    × ((i : ℕ) → i < e → holds h from i ≡ true → holds h to i ≡ true)
