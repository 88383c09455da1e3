-- Denials of formulas that can be decided, and what their decision tells.
use Rattle.std.proofs.Common.{◌≡◌, ℕ, ◌≤◌, Bool, true, false, [], ◌∷◌, refl, sym, ap, ◌∙◌, subst, arith}
use Rattle.std.proofs.lemmas.Bool.{false≢true}
use Rattle.std.specs.Prelude.{ℤ, not}
use Rattle.carol_formula.specs.Claim.{Claim, cases_of, truth, without_not}
use Rattle.carol_formula.specs.Size.{nodes_of}
use Rattle.carol_formula.proofs.Light.{nodes-without_not}
use Rattle.carol_cert.specs.Proof.{proof_of}
use Rattle.carol_cert.specs.declared.tree.Refutation.{Refutation}
use Rattle.carol_cert.proofs.Sound.{never_true, claim_never_true}
use Rattle.carol_decide.specs.Sizes.{OfDifferences}
use Rattle.carol_decide.specs.declared.answer.TheConstants.{MOST_LEAVES}
use Rattle.carol_decide.specs.declared.answer.Why.{Why}
use Rattle.carol_decide.specs.Answer.{IsUnsat, IsSat, IsStuck, IsWhy}
use Rattle.carol_typecheck.specs.Formulas.{IsValid}

pub small_denial : (c denial : Claim) → denial ≡ without_not false c → nodes_of c ≤ 65535 → nodes_of denial ≤ 65536
small_denial c denial is few = omega (arith, few, nodes-without_not false c, ap nodes_of is)

-- the second formula is false where the first is true
abbrev pub Denies : Claim → Claim → Type 0
Denies c denial = (f : ℕ → ℤ) → truth denial f ≡ not (truth c f)

not-true : (b : Bool) → not b ≡ false → b ≡ true
not-true true e = refl
not-true false e = absurd (false≢true (sym e))

pub not-false : (b : Bool) → not b ≡ true → b ≡ false
not-false true e = absurd (false≢true e)
not-false false e = refl

pub valid_refuted : (c denial : Claim) (leaves : ℕ) (tree : Refutation) → Denies c denial → IsUnsat denial leaves (proof_of tree) → IsValid c
valid_refuted c denial leaves tree denies is f =
    not-true (truth c f) (sym (denies f) ∙ claim_never_true denial (never_true (proof_of tree) (denial ∷ []) is.refutes) f)

pub false_at : (c denial : Claim) (f : ℕ → ℤ) → Denies c denial → IsSat denial f → truth c f ≡ false
false_at c denial f denies is = not-false (truth c f) (sym (denies f) ∙ is.holds)

pub stuck_for : (c denial : Claim) (why : Why) → denial ≡ without_not false c → IsWhy denial MOST_LEAVES why → (OfDifferences denial → cases_of denial ≤ MOST_LEAVES → ⊥) → IsStuck (without_not false c) why
stuck_for c denial why is kept beyond = subst (λ (d : Claim). IsStuck d why) is (record { kept = kept; beyond = beyond })
