-- Comparisons as rows with names.
use Rattle.std.proofs.Common.{◌≡◌, ℕ, List, sym, ◌∙◌, ap, subst, arith}
use Rattle.std.specs.Prelude.{Some, slice_get, ℤ, negsuc, ◌*ℤ◌, neg_ℤ}
use Rattle.std.proofs.Math.Path.{fun_ext}
use Rattle.std.proofs.lemmas.Int.{ints}
use Rattle.carol_formula.specs.Linear.{Linear, coefficient_of, scaled}
use Rattle.carol_formula.specs.Claim.{Claim, Le, Eq}
use Rattle.carol_cert.specs.PlainRow.{row_of, negated}
use Rattle.carol_cert.specs.Steps.{IsRow, IsEquation, term_of}
use Rattle.carol_cert.specs.declared.step.RowStep.TheVariants.{Given, Reversed}
use Rattle.carol_linear.specs.Names.{IsNamed}
use Rattle.carol_elimination.proofs.Closing.{row_of-scaled}

pub named_le : (claims : List Claim) (at : ℕ) (t : Linear) → slice_get claims at ≡ Some (Le t) → IsNamed claims (Given at) t
named_le claims at t e = (subst IsRow (sym e) tt, ap (λ o. row_of (term_of o)) (sym e))

pub named_eq : (claims : List Claim) (at : ℕ) (t : Linear) → slice_get claims at ≡ Some (Eq t) → IsNamed claims (Given at) t
named_eq claims at t e = (subst IsRow (sym e) tt, ap (λ o. row_of (term_of o)) (sym e))

minus_one : (z : ℤ) → negsuc 0 *ℤ z ≡ neg_ℤ z
minus_one z = omega (arith, ints)

row_of-minus : (t : Linear) → row_of (scaled (negsuc 0) t) ≡ negated (row_of t)
row_of-minus t =
    row_of-scaled (negsuc 0) t
    ∙ ap (λ (c : ℕ → ℤ). record { coefficient = c; rest = negsuc 0 *ℤ t.rest }) (fun_ext (λ v. minus_one (coefficient_of v t.pairs)))
    ∙ ap (λ (z : ℤ). record { coefficient = λ v. neg_ℤ (coefficient_of v t.pairs); rest = z }) (minus_one t.rest)

pub named_reversed : (claims : List Claim) (at : ℕ) (t : Linear) → slice_get claims at ≡ Some (Eq t) → IsNamed claims (Reversed at) (scaled (negsuc 0) t)
named_reversed claims at t e = (subst IsEquation (sym e) tt, row_of-minus t ∙ ap (λ o. negated (row_of (term_of o))) (sym e))
