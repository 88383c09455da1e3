-- What the work comes to where a formula is decided.
use Rattle.std.proofs.Common.{◌≡◌, ℕ, ◌∙◌, ap, subst}
use Rattle.std.specs.Prelude.{ℤ, List, Some, slice_get}
use Rattle.carol_cert.specs.declared.tree.Refutation.{Refutation}
use Rattle.carol_store.specs.declared.shape.CellKind.{CellKind}
use Rattle.carol_store.specs.declared.direction.Direction.{Direction}
use Rattle.carol_formula.specs.Claim.{Claim}
use Rattle.carol_formula.specs.Numbers.{number_at}
use Rattle.carol_decide.specs.declared.answer.Answer.{Answer}
use Rattle.carol_decide.specs.declared.answer.Answer.TheVariants.{Unsat, Sat, Undecided}
use Rattle.carol_decide.specs.declared.answer.Why.{Why}
use Rattle.carol_program.specs.Preserving.{Preserves}
use Rattle.carol_program.specs.Rules.{Rules}
use Rattle.carol_reading.specs.Good.{IsReflexive}
use Rattle.carol_accord.specs.Broken.{BreaksEqual, BreaksStep}
use Rattle.carol_accord.specs.Formed.{equal_claim, step_claim}
use Rattle.carol_accord.specs.Inferred.{IsEqualReason, IsStepReason}
use Rattle.carol_accord.specs.Parts.{IsGuard, Decides}
use Rattle.carol_accord.proofs.Exact.{equal-exact, equal-never, step-exact, step-never}

decides-as : {c d : Claim} {answer other : Answer} → c ≡ d → answer ≡ other → Decides c answer → Decides d other
decides-as {d = d} {answer = answer} e i h = subst (Decides d) i (subst (λ (x : Claim). Decides x answer) e h)

-- ---- equal stores

module _ (p : Rules) (guard : Claim) (g : IsGuard p.shape guard) (kinds : List CellKind) (same : kinds ≡ p.shape) (claim : Claim) (is : claim ≡ equal_claim kinds guard) (answer : Answer) (h : Decides claim answer) where
  whole : claim ≡ equal_claim p.shape guard
  whole = is ∙ ap (λ (ks : List CellKind). equal_claim ks guard) same

  pub equal_yes : (tree : Refutation) → answer ≡ Unsat tree → IsReflexive p guard
  equal_yes tree e = equal-never p guard g (decides-as whole e h)

  pub equal_no : (at : List (ℕ × ℤ)) → answer ≡ Sat at → BreaksEqual p.shape guard (number_at at)
  equal_no at e = (equal-exact p.shape guard g (number_at at)).0 (decides-as whole e h)

  pub equal_open : (why : Why) → answer ≡ Undecided why → IsEqualReason p.shape guard why
  equal_open why e = record { exact = equal-exact p.shape guard g; stuck = decides-as whole e h }

-- ---- a step

module _ (shape : List CellKind) (guard : Claim) (g : IsGuard shape guard) (kind : CellKind) (step : Direction) (at : slice_get shape step.cell ≡ Some kind) (kinds : List CellKind) (same : kinds ≡ shape) (claim : Claim) (is : claim ≡ step_claim kinds guard kind step) (answer : Answer) (h : Decides claim answer) where
  step_whole : claim ≡ step_claim shape guard kind step
  step_whole = is ∙ ap (λ (ks : List CellKind). step_claim ks guard kind step) same

  pub step_yes : (tree : Refutation) → answer ≡ Unsat tree → Preserves shape guard step
  step_yes tree e = step-never shape guard g kind step at (decides-as step_whole e h)

  pub step_no : (numbers : List (ℕ × ℤ)) → answer ≡ Sat numbers → BreaksStep shape guard step (number_at numbers)
  step_no numbers e = (step-exact shape guard g kind step at (number_at numbers)).0 (decides-as step_whole e h)

  pub step_open : (why : Why) → answer ≡ Undecided why → IsStepReason shape guard step why
  step_open why e = record { kind = kind; of_kind = at; reason = record { exact = step-exact shape guard g kind step at; stuck = decides-as step_whole e h } }
