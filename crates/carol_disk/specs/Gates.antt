-- A file whose front counts: behind it stands a shut gate, a byte other than 1.
use Rattle.std.specs.Prelude.{◌≡◌, ◌≢◌, ◌⊎◌, ◌<◌, ℕ, ◌+◌, ◌≤◌, List, [], ◌∷◌, ◌++◌, length, Result, Ok, Err}

-- a shut gate stands in front
abbrev pub IsShut : List ℕ → Type 0
IsShut [] = ⊥
IsShut (gate ∷ more) = gate ≢ 1

-- the file is the front, a shut gate, and whatever stands behind it; or there is no front, and the
-- file has at most one byte
abbrev pub EndsBehind : List ℕ → List ℕ → Type 0
EndsBehind front file =
    ((end : List ℕ) × (file ≡ front ++ end) × IsShut end) ⊎ ((front ≡ []) × (length file ≤ 1))

-- so it is, or the part stands behind the front and an open gate
abbrev pub GrowsBy : List ℕ → List ℕ → List ℕ → Type 0
GrowsBy front part file = EndsBehind front file ⊎ (file ≡ front ++ 1 ∷ part)

-- four calls that tick where they succeed
abbrev pub TicksFour : {T E : Type 0} → ℕ → ℕ → Result T E → Type 0
TicksFour old new (Ok done) = new ≡ old + 4
TicksFour old new (Err error) = (old ≤ new) × (new < old + 4)
