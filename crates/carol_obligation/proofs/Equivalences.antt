-- Facts that hold exactly where others do.
use Rattle.std.proofs.Common.{◌≡◌, Bool, sym, ◌∙◌}
use Rattle.std.specs.Prelude.{◌↔◌}

pub same : (A : Type 0) → A ↔ A
same A = (λ a. a, λ a. a)

pub chain : {A B C : Type 0} → A ↔ B → B ↔ C → A ↔ C
chain h k = (λ a. k.0 (h.0 a), λ c. h.1 (k.1 c))

pub both : {A B C D : Type 0} → A ↔ B → C ↔ D → (A × C) ↔ (B × D)
both h k = (λ a. (h.0 a.0, k.0 a.1), λ b. (h.1 b.0, k.1 b.1))

-- a test has one outcome where an equal one has it
pub swapped : (b c d : Bool) → b ≡ c → (b ≡ d) ↔ (c ≡ d)
swapped b c d e = (λ h. sym e ∙ h, λ h. e ∙ h)
