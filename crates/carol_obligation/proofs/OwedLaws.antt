-- What is asked at a place isn't so exactly where its formula says it.
use Rattle.std.proofs.Common.{◌≡◌, ℕ, ◌+◌, ◌≤◌, inl, inr, List, [], ◌∷◌, arith, refl, sym, ◌∙◌, ap}
use Rattle.std.specs.Prelude.{◌↔◌, ◌⊎◌, ℤ, pos, negsuc, ◌+ℤ◌, ◌≤ℤ◌, unsigned_abs, Option, Some, None, slice_get}
use Rattle.std.specs.Int.{int_max}
use Rattle.std.specs.List.{AllByRecursion}
use Rattle.std.proofs.lemmas.Int.{ints, clamps, by_lt_z}
use Rattle.carol_store.specs.declared.shape.CellKind.{CellKind}
use Rattle.carol_store.specs.declared.shape.CellKind.TheVariants.{Counter, Peak, Flag}
use Rattle.carol_formula.specs.Claim.{Claim}
use Rattle.carol_formula.specs.Linear.{Linear, constant_of, variable_of, sum_of}
use Rattle.carol_formula.specs.Value.{value_at}
use Rattle.carol_formula.proofs.Sums.{value_at-sum_of}
use Rattle.carol_program.specs.declared.steps.Part.{Part}
use Rattle.carol_program.specs.Variables.{number_in}
use Rattle.carol_program.specs.WellFormed.{IsPartOver}
use Rattle.carol_reading.specs.Readings.{amount_for}
use Rattle.carol_obligation.specs.Decoded.{round_variable}
use Rattle.carol_obligation.specs.Breaches.{AreTied}
use Rattle.carol_obligation.specs.Formed.{most_of, too_large, tie, with_tie, with_ties}
use Rattle.carol_obligation.proofs.Parts.{IsFound, done-within}
use Rattle.carol_obligation.proofs.TruthForms.{Says, says-so, says-and, says-or, says-le, says-at_most, value_at-variable, value_at-constant}
use Rattle.carol_obligation.proofs.KnownLaws.{regrouped, with_nothing}
use Rattle.carol_obligation.proofs.Numbers.{worth-round}
use Rattle.carol_obligation.proofs.Effects.{done, before, after, cell-done}

-- ---- amounts

beyond : (most : ℕ) (z : ℤ) → ((pos (most + 1) ≤ℤ z) ⊎ ((z +ℤ pos (most + 1)) ≤ℤ pos 0)) ↔ (¬ (unsigned_abs z ≤ most))
beyond most z = (forth z, back z)
  where
    forth : (z : ℤ) → (pos (most + 1) ≤ℤ z) ⊎ ((z +ℤ pos (most + 1)) ≤ℤ pos 0) → ¬ (unsigned_abs z ≤ most)
    forth (pos n) (inl h) le = omega (arith, ints)
    forth (pos n) (inr h) le = omega (arith, ints)
    forth (negsuc n) (inl h) le = omega (arith, ints)
    forth (negsuc n) (inr h) le = omega (arith, ints)

    back : (z : ℤ) → ¬ (unsigned_abs z ≤ most) → (pos (most + 1) ≤ℤ z) ⊎ ((z +ℤ pos (most + 1)) ≤ℤ pos 0)
    back (pos n) no_more = inl (omega (arith, ints, no_more))
    back (negsuc n) no_more = inr (omega (arith, ints, no_more))

module _ (f : ℕ → ℤ) where
  pub says-too_large : (kind : CellKind) (t : Linear) → Says (too_large kind t) f (¬ (unsigned_abs (value_at t f) ≤ most_of kind))
  says-too_large kind t = says-so (says-or
      (says-at_most (constant_of (pos (most_of kind + 1))) t f (pos (most_of kind + 1)) (value_at t f) (value_at-constant (pos (most_of kind + 1)) f) refl)
      (says-le (sum_of t (constant_of (pos (most_of kind + 1)))) f (value_at t f +ℤ pos (most_of kind + 1))
      (value_at-sum_of t (constant_of (pos (most_of kind + 1))) f ∙ ap (λ z. value_at t f +ℤ z) (value_at-constant (pos (most_of kind + 1)) f)))) (beyond (most_of kind) (value_at t f))

  -- ---- ties

  greater : (w z t : ℤ) → (((z ≤ℤ w) × (t ≤ℤ w)) × ((w ≤ℤ z) ⊎ (w ≤ℤ t))) ↔ (w ≡ int_max z t)
  greater w z t = (λ h. least h.0.0 h.0.1 h.1, λ e. ((omega (arith, ints, clamps, e), omega (arith, ints, clamps, e)), one e))
    where
      least : z ≤ℤ w → t ≤ℤ w → (w ≤ℤ z) ⊎ (w ≤ℤ t) → w ≡ int_max z t
      least a b (inl c) = omega (arith, ints, clamps)
      least a b (inr c) = omega (arith, ints, clamps)

      one : w ≡ int_max z t → (w ≤ℤ z) ⊎ (w ≤ℤ t)
      one e = by_lt_z z t (λ h. inr (omega (arith, ints, clamps, e, h))) (λ h. inl (omega (arith, ints, clamps, e, h)))

  says-tie : (round cell : ℕ) (target : Linear) (z : ℤ) → value_at (variable_of (round_variable round cell)) f ≡ z → Says (tie round cell target) f (f cell ≡ int_max z (value_at target f))
  says-tie round cell target z own = says-so (says-and
      (says-and
      (says-at_most (variable_of (round_variable round cell)) (variable_of cell) f z (f cell) own (value_at-variable cell f))
      (says-at_most target (variable_of cell) f (value_at target f) (f cell) refl (value_at-variable cell f)))
      (says-or
      (says-at_most (variable_of cell) (variable_of (round_variable round cell)) f (f cell) z (value_at-variable cell f) own)
      (says-at_most (variable_of cell) target f (f cell) (value_at target f) (value_at-variable cell f) refl))) (greater (f cell) z (value_at target f))

  module _ (round : ℕ) (part : Part) (z a : ℤ) (own : value_at (variable_of (round_variable round part.cell)) f ≡ z) where
    says-with_tie : (kind : Option CellKind) {known : Claim} {P : Type 0} → (kind ≡ Some Peak → a ≡ int_max z (value_at part.amount f)) → Says known f P → Says (with_tie round part kind known) f (P × (kind ≡ Some Peak → f part.cell ≡ a))
    says-with_tie None is h = says-so h (λ s. (s, λ e. cc), λ s. s.0)
    says-with_tie (Some Counter) is h = says-so h (λ s. (s, λ e. cc), λ s. s.0)
    says-with_tie (Some Flag) is h = says-so h (λ s. (s, λ e. cc), λ s. s.0)
    says-with_tie (Some Peak) is h = says-so (says-and h (says-tie round part.cell part.amount z own)) (λ s. (s.0, λ e. s.1 ∙ sym (is refl)), λ s. (s.0, s.1 refl ∙ is refl))

  module _ (kinds : List CellKind) (ranges : List (ℕ × ℕ)) (parts : List Part) (round : ℕ) where
    peak-after : (part : Part) → IsPartOver kinds ranges part → IsFound parts part → slice_get kinds part.cell ≡ Some Peak → number_in (after kinds f parts round) part.cell ≡ int_max (number_in (before kinds f parts round) part.cell) (value_at part.amount f)
    peak-after part over found peak = cell-done kinds f parts round part.cell (done-within kinds part.cell part.amount over.0)
        ∙ ap (λ (k : Option CellKind). done f k (amount_for part.cell parts) (number_in (before kinds f parts round) part.cell)) peak
        ∙ ap (λ (o : Option Linear). done f (Some Peak) o (number_in (before kinds f parts round) part.cell)) found

    pub says-ties : (ps : List Part) {known : Claim} {P : Type 0} → AllByRecursion (IsPartOver kinds ranges) ps → AllByRecursion (IsFound parts) ps → Says known f P → Says (with_ties kinds round ps known) f (P × AreTied kinds (after kinds f parts round) ps f)
    says-ties [] over found h = says-so h with_nothing
    says-ties (part ∷ ps) over found h = says-so (says-ties ps over.1 found.1
        (says-with_tie round part (number_in (before kinds f parts round) part.cell) (number_in (after kinds f parts round) part.cell)
        (worth-round f kinds round part.cell (done-within kinds part.cell part.amount over.0.0))
        (slice_get kinds part.cell) (peak-after part over.0 found.0) h)) regrouped
