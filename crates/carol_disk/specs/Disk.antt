-- What the calls of a disk do to its file, and what a crash may leave.
use Rattle.std.specs.Prelude.{◌≡◌, ◌⊎◌, ◌<◌, ℕ, ◌+◌, ◌≤◌, min, max, List, ◌++◌, length, take, drop, Result, Ok, Err}

-- the file with these bytes from this place on
abbrev pub written : List ℕ → ℕ → List ℕ → List ℕ
written file at bytes = take at file ++ bytes ++ drop (at + length bytes) file

-- a write of the bytes between two places may be torn: there, and past the old end, any bytes may
-- stand; all others stay
pub record Torn (from end : ℕ) (old new : List ℕ) : Type 0 where
  pub before : take (min from (length old)) new ≡ take from old
  pub after : drop end new ≡ drop end old
  pub no_shorter : length old ≤ length new
  pub no_longer : length new ≤ max (length old) end

-- a cut may be torn: behind the place any bytes may stand, or none
pub record CutBack (end : ℕ) (old new : List ℕ) : Type 0 where
  pub before : take (min end (length old)) new ≡ take end old
  pub no_shorter : min end (length old) ≤ length new
  pub no_longer : length new ≤ max (length old) end

-- each new outcome of a crash is an old one after a step
abbrev pub Follows : (List ℕ → List ℕ → Type 0) → (List ℕ → Type 0) → (List ℕ → Type 0) → Type 0
Follows step old new = (c : List ℕ) → new c → (d : List ℕ) × old d × step d c

-- a crash leaves this file and no other
abbrev pub Only : List ℕ → (List ℕ → Type 0) → Type 0
Only file outcomes = (c : List ℕ) → outcomes c → c ≡ file

-- how far the clock goes on in a call with this answer
abbrev pub ticks_of : {T E : Type 0} → Result T E → ℕ
ticks_of (Ok done) = 1
ticks_of (Err error) = 0

-- time goes on: a crash since a moment might have left what it might have left before the call, or
-- what it may leave now
pub record Elapses
    (before : ℕ) (past since : ℕ → List ℕ → Type 0) (may_leave : List ℕ → Type 0) : Type 0 where
  pub nothing_else : (t : ℕ) (c : List ℕ) → t ≤ before → since t c → past t c ⊎ may_leave c
  pub keeps : (t : ℕ) (c : List ℕ) → t ≤ before → past t c → since t c

-- a crash at any moment from the old disk to the new one leaves a file that has P
pub record LeavesOnly {D : Type 0}
    (moment : D → ℕ) (left_since : D → ℕ → List ℕ → Type 0) (old new : D)
    (P : List ℕ → Type 0) : Type 0 where
  pub later : moment old ≤ moment new
  pub each : (c : List ℕ) → left_since new (moment old) c → P c
  -- for what began earlier
  pub before : (t : ℕ) (c : List ℕ) → t ≤ moment old → left_since new t c → left_since old t c ⊎ P c

-- two calls that tick where they succeed: both did, or the first or the second failed
abbrev pub TicksTwice : {T E : Type 0} → ℕ → ℕ → Result T E → Type 0
TicksTwice old new (Ok done) = new ≡ old + 2
TicksTwice old new (Err error) = (old ≤ new) × (new < old + 2)
