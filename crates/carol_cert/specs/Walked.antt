-- What a walk over a tree brings back.
use Rattle.std.specs.Prelude.{ℕ, ◌^◌, ◌-◌, min}
use Rattle.carol_cert.specs.declared.checker.Walked.{Walked}
use Rattle.carol_cert.specs.Proof.{Proof}
use Rattle.carol_cert.specs.Counts.{turns_of, has_gap}

-- a count as far as a `u32` goes
abbrev pub counted : ℕ → ℕ
counted n = min n (2 ^ 32 - 1)

-- the turns of the tree, as far as they are counted, and whether a leaf is unclosed
abbrev pub walked : Proof → Walked
walked tree = record { turns = counted (turns_of tree); has_gap = has_gap tree }
