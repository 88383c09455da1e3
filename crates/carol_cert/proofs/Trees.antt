-- A branch as plain data.
use Rattle.std.proofs.Common.{ℕ, ◌≡◌, ap, sym, ◌∙◌}
use Rattle.std.specs.Prelude.{ℤ}
use Rattle.carol_cert.specs.declared.tree.Refutation.{Refutation, fold-roll-Refutation}
use Rattle.carol_cert.specs.declared.tree.Refutation.TheOpen.{Refutation-F}
use Rattle.carol_cert.specs.declared.tree.Refutation.TheVariants as shape
use Rattle.carol_cert.specs.Proof.{Proof, Branch, proof_at, proof_of}

pub proof_of-Branch : (tree : Refutation) (v : ℕ) (k : ℤ) (low high first second : Refutation) → tree ≡ shape.Branch v k low high → first ≡ low → second ≡ high → proof_of tree ≡ Branch v k (proof_of first) (proof_of second)
proof_of-Branch tree v k low high first second is e f =
    ap proof_of (is ∙ sym (shape.rolls-Branch v k low high))
    ∙ fold-roll-Refutation Proof proof_at (Refutation-F.Branch v k low high)
    ∙ ap (λ p. Branch v k (proof_of p) (proof_of high)) (sym e)
    ∙ ap (λ p. Branch v k (proof_of first) (proof_of p)) (sym f)
