-- What the answer to the form without `Not` says of the formula.
use Rattle.std.proofs.Common.{ℕ, ◌≡◌, true, [], ◌∷◌, Result, Ok, Err, sym, ◌∙◌, subst}
use Rattle.carol_formula.specs.Claim.{Claim, truth, without_not}
use Rattle.carol_formula.specs.Numbers.{number_at}
use Rattle.std.specs.Prelude.{ℤ, IfOk}
use Rattle.std.specs.declared.alloc.AllocError.{AllocError}
use Rattle.carol_cert.specs.Proof.{proof_of}
use Rattle.carol_cert.proofs.Sound.{never_true, claim_never_true}
use Rattle.carol_decide.specs.declared.answer.Answer.{Answer}
use Rattle.carol_decide.specs.declared.answer.Answer.TheVariants.{Unsat, Sat, Undecided}
use Rattle.carol_decide.specs.declared.answer.TheConstants.{MOST_LEAVES}
use Rattle.carol_decide.specs.Answer.{IsAnswer, IsStuck, Settles}
use Rattle.carol_accord.specs.Parts.{Decides}

pub decides : (claim form : Claim) (answer : Answer) → ((f : ℕ → ℤ) → truth form f ≡ truth claim f) → form ≡ without_not true claim → IsAnswer form MOST_LEAVES answer → Settles form MOST_LEAVES answer → Decides claim answer
decides claim form (Unsat tree) same is h settles = λ f. sym (same f) ∙ claim_never_true form (never_true (proof_of tree) (form ∷ []) h.refutes) f
decides claim form (Sat at) same is h settles = sym (same (number_at at)) ∙ h.holds
decides claim form (Undecided why) same is h settles = subst (λ (c : Claim). IsStuck c why) is (record { kept = h; beyond = settles })

pub answered : (claim form : Claim) (r : Result Answer AllocError) → ((f : ℕ → ℤ) → truth form f ≡ truth claim f) → form ≡ without_not true claim → IfOk r (IsAnswer form MOST_LEAVES) → IfOk r (Settles form MOST_LEAVES) → IfOk r (Decides claim)
answered claim form (Ok answer) same is h settles = decides claim form answer same is h settles
answered claim form (Err e) same is h settles = tt
