-- A count of faults, and what a failure says of it.
use Rattle.std.specs.Prelude.{ℕ, ◌≢◌, ◌<◌, ◌-◌, ◌^◌, min, ◌+◌}

-- the count is higher than before; where it stands at the last value of a 64-bit counter nothing is
-- said
abbrev pub Rose : ℕ → ℕ → Type 0
Rose old new = new ≢ 2 ^ 64 - 1 → old < new

-- one more, in a 64-bit counter that stays at its last value
abbrev pub one_more : ℕ → ℕ
one_more n = min (n + 1) (2 ^ 64 - 1)
