-- The state of adding up a term's value.
use Rattle.std.proofs.Common.{ℕ, ◌≡◌, List, ◌∷◌, sym, ◌∙◌, ap, subst}
use Rattle.std.specs.Prelude.{ℤ, ◌+ℤ◌, ◌*ℤ◌}
use Rattle.std.proofs.Math.IntN.{+ℤ_assoc}
use Rattle.carol_formula.specs.Bounds.{IsBelow}
use Rattle.carol_formula.specs.Linear.{Linear}
use Rattle.carol_formula.specs.Value.{sum_at, value_at, SumFits, FitsWithin}

-- the sum so far, and the products that are left
pub record Summing (limit : ℕ) (t : Linear) (f : ℕ → ℤ) (sum : ℤ) (left : List (ℕ × ℤ)) : Type 0 where
  pub forth : SumFits limit sum left t.rest f → FitsWithin limit t f
  pub back : FitsWithin limit t f → SumFits limit sum left t.rest f
  pub value : (sum +ℤ sum_at left f) +ℤ t.rest ≡ value_at t f

opened : (limit : ℕ) (t : Linear) (f : ℕ → ℤ) (sum : ℤ) (left left' : List (ℕ × ℤ)) → Summing limit t f sum left → left ≡ left' → Summing limit t f sum left'
opened limit t f sum left left' s e = subst (Summing limit t f sum) e s

stepped : (limit : ℕ) (t : Linear) (f : ℕ → ℤ) (sum : ℤ) (p : ℕ × ℤ) (more : List (ℕ × ℤ)) → Summing limit t f sum (p ∷ more) → IsBelow limit (p.1 *ℤ f p.0) → IsBelow limit (sum +ℤ (p.1 *ℤ f p.0)) → Summing limit t f (sum +ℤ (p.1 *ℤ f p.0)) more
stepped limit t f sum p more s a b = record {
  forth = λ h. s.forth (a, b, h);
  back = λ h. (s.back h).2;
  value = ap (λ z. z +ℤ t.rest) (+ℤ_assoc sum (p.1 *ℤ f p.0) (sum_at more f)) ∙ s.value;
}

-- one product more; each number stands twice, as it is and as its bits give it back
pub sum_step : (limit : ℕ) (t : Linear) (f : ℕ → ℤ) (sum sum' sum'' product product' a b : ℤ) (left : List (ℕ × ℤ)) (p : ℕ × ℤ) (more : List (ℕ × ℤ)) → Summing limit t f sum left → left ≡ p ∷ more → a ≡ p.1 → b ≡ f p.0 → product' ≡ product → sum'' ≡ sum' → IsBelow limit (a *ℤ b) × (product ≡ a *ℤ b) → IsBelow limit (sum +ℤ product') × (sum' ≡ sum +ℤ product') → Summing limit t f sum'' more
sum_step limit t f sum sum' sum'' product product' a b left p more s e x y z w g h = subst (λ n. Summing limit t f n more) (sym (w ∙ h.1 ∙ ap (λ n. sum +ℤ n) is)) (stepped limit t f sum p more (opened limit t f sum left (p ∷ more) s e) (subst (IsBelow limit) both g.0) (subst (λ n. IsBelow limit (sum +ℤ n)) is h.0))
  where
    both : a *ℤ b ≡ p.1 *ℤ f p.0
    both = ap (λ n. n *ℤ b) x ∙ ap (λ n. p.1 *ℤ n) y

    is : product' ≡ p.1 *ℤ f p.0
    is = z ∙ g.1 ∙ both
