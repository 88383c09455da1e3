-- The coefficient of a variable where signs are turned.
use Rattle.std.proofs.Common.{◌≡◌, ℕ, Bool, true, false, List, [], ◌∷◌, refl, sym, subst, arith}
use Rattle.std.specs.Prelude.{Some, ℤ, pos, negsuc, ◌+ℤ◌, ◌*ℤ◌, neg_ℤ, ◌==◌}
use Rattle.std.proofs.lemmas.Int.{ints}
use Rattle.carol_formula.specs.Linear.{Linear, coefficient_of, times}
use Rattle.carol_cert.specs.PlainRow.{row_of}
use Rattle.carol_cert.specs.Cases.{above_zero}
use Rattle.carol_cert.specs.Steps.{term_of}
use Rattle.carol_cert.specs.Columns.{entry_of}
use Rattle.carol_cert.specs.declared.column.Column.{Column}
use Rattle.carol_cert.specs.declared.column.Column.TheVariants.{Coefficient}

minus : (a b : ℤ) → (negsuc 0 *ℤ a) +ℤ neg_ℤ b ≡ neg_ℤ (a +ℤ b)
minus a b = omega (arith, ints)

minus_none : (b : ℤ) → pos 0 +ℤ neg_ℤ b ≡ neg_ℤ (pos 0 +ℤ b)
minus_none b = omega (arith, ints)

coefficient_of-minus : (v : ℕ) (ps : List (ℕ × ℤ)) → coefficient_of v (times (negsuc 0) ps) ≡ neg_ℤ (coefficient_of v ps)
coefficient_of-minus v [] = refl
coefficient_of-minus v (p ∷ ps) = by_test (v == p.0) refl (coefficient_of-minus v ps)
  where
    by_test : (t : Bool) → v == p.0 ≡ t → coefficient_of v (times (negsuc 0) ps) ≡ neg_ℤ (coefficient_of v ps) → coefficient_of v (times (negsuc 0) (p ∷ ps)) ≡ neg_ℤ (coefficient_of v (p ∷ ps))
    by_test true e rest = rw (e, rest) (minus p.1 (coefficient_of v ps))
    by_test false e rest = rw (e, rest) (minus_none (coefficient_of v ps))

-- the coefficient in `1 - t`
pub entry_of-above_zero : (c : Column) (v : ℕ) (t : Linear) → c ≡ Coefficient v → neg_ℤ (entry_of c (row_of t)) ≡ entry_of c (row_of (term_of (Some (above_zero t))))
entry_of-above_zero c v t e =
    let P : Column → Type 0 = λ c. neg_ℤ (entry_of c (row_of t)) ≡ entry_of c (row_of (term_of (Some (above_zero t)))) in
    subst P (sym e) (sym (coefficient_of-minus v t.pairs))
