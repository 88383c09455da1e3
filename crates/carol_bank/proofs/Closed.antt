-- The decision of the deposit's invariant ends for no reason but an answer.
use Rattle.std.proofs.Common.{◌≡◌, List, [], ◌++◌, ap, subst}
use Rattle.carol_formula.specs.Linear.{Linear}
use Rattle.carol_formula.specs.Numbers.{number_at}
use Rattle.carol_cert.specs.Proof.{proof_of}
use Rattle.carol_elimination.specs.Choosing.{IsFar as IsFarRow}
use Rattle.carol_elimination.specs.Entries.{terms_of}
use Rattle.carol_linear.specs.Answer.{IsDerived, IsWide, IsFar}
use Rattle.carol_linear.specs.declared.answer.Wide.{Wide as WideReason}
use Rattle.carol_linear.specs.declared.answer.Far.{Far as FarReason}
use Rattle.carol_decide.specs.Answer.{IsWhy}
use Rattle.carol_decide.specs.declared.answer.TheConstants.{MOST_LEAVES}
use Rattle.carol_decide.specs.declared.answer.Why.{Why}
use Rattle.carol_decide.specs.declared.answer.Why.TheVariants.{Leaves, Wide, Far}
use Rattle.carol_bank.proofs.Sums.{sum_claim, rows, never_spent, only_case, no_branches}
use Rattle.carol_bank.proofs.Rows.{never_wide, never_far}

without_branches : (more : List Linear) → more ≡ [] → rows ++ more ≡ rows
without_branches more e = ap (λ z. rows ++ z) e

not_wide : (w : WideReason) → IsWide rows w → ⊥
not_wide w h =
    let e : rows ++ terms_of w.branches ≡ rows = without_branches (terms_of w.branches) (no_branches (terms_of w.branches) h.branches) in
    never_wide w.variable w.upper.steps w.lower.steps w.upper.row.0 w.lower.row.0
    (subst (λ z. IsDerived z w.upper) e h.upper) (subst (λ z. IsDerived z w.lower) e h.lower) h.wide

not_far : (w : FarReason) → IsFar rows w → ⊥
not_far w h =
    let e : rows ++ terms_of w.branches ≡ rows = without_branches (terms_of w.branches) (no_branches (terms_of w.branches) h.branches) in
    never_far w.row.steps w.row.row.0 (number_at w.values) (subst (λ z. IsFarRow z w.row.steps w.row.row.0 (number_at w.values)) e h.far)

pub sum_closed : (why : Why) → IsWhy sum_claim MOST_LEAVES why → ⊥
sum_closed (Leaves tree) h = never_spent (proof_of tree) h
sum_closed (Wide w) h = not_wide w (subst (λ z. IsWide z w) (only_case h.case h.is_case) h.wide)
sum_closed (Far w) h = not_far w (subst (λ z. IsFar z w) (only_case h.case h.is_case) h.far)
