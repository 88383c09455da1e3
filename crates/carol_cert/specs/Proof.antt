-- Refutations as plain data.
use Rattle.std.specs.Prelude.{ℕ, ◌+◌, ℤ, List}
use Rattle.carol_cert.specs.declared.step.RowStep.{RowStep}
use Rattle.carol_cert.specs.declared.tree.Refutation.{Refutation, fold-Refutation}
use Rattle.carol_cert.specs.declared.tree.Refutation.TheOpen.{Refutation-F}

pub data Proof : Type 0 where
  Absurd : ℕ → Proof
  Part : ℕ → Proof → Proof
  Split : ℕ → Proof → Proof → Proof
  Branch : ℕ → ℤ → Proof → Proof → Proof
  Rows : List RowStep → Proof
  Unclosed : Proof

-- one level, where each tree inside is seen as plain data
abbrev pub proof_at : Refutation-F Proof → Proof
proof_at (Refutation-F.Absurd at) = Absurd at
proof_at (Refutation-F.Part at rest) = Part at rest
proof_at (Refutation-F.Split at left right) = Split at left right
proof_at (Refutation-F.Branch variable k low high) = Branch variable k low high
proof_at (Refutation-F.Rows steps) = Rows steps
proof_at Refutation-F.Unclosed = Unclosed

abbrev pub proof_of : Refutation → Proof
proof_of = fold-Refutation Proof proof_at

-- how much is left to be dropped: it falls where the right side of a left one is moved to the right
abbrev pub rank_at : Refutation-F ℕ → ℕ
rank_at (Refutation-F.Part at rest) = rest + 1
rank_at (Refutation-F.Split at left right) = left + left + right + 1
rank_at (Refutation-F.Branch variable k low high) = low + low + high + 1
rank_at _ = 1

abbrev pub rank_of : Refutation → ℕ
rank_of = fold-Refutation ℕ rank_at
