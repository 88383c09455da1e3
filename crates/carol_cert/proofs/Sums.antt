-- The sum of two multiples, made step by step.
use Rattle.std.proofs.Common.{◌≡◌, ℕ, List, sym, ◌∙◌, ap, subst}
use Rattle.std.specs.Prelude.{Option, Some, None, SomeIff, slice_get, ℤ, pos, ◌+ℤ◌, ◌*ℤ◌, ◌≤ℤ◌}
use Rattle.std.proofs.lemmas.Option.{slice_get_within, get_or_from_slice_get}
use Rattle.carol_formula.specs.Bounds.{IsBelow, value_limit}
use Rattle.carol_cert.specs.Columns.{number_of, AddsUp}

-- first is p and second is q
pub sum_bounded : (p q first second : ℤ) (r : Option ℤ) → IsBelow value_limit p × (first ≡ p) → IsBelow value_limit q × (second ≡ q) → SomeIff r (IsBelow value_limit (first +ℤ second)) (first +ℤ second) → SomeIff r (IsBelow value_limit p × IsBelow value_limit q × IsBelow value_limit (p +ℤ q)) (p +ℤ q)
sum_bounded p q first second r f s h =
    let P : ℤ → ℤ → Type 0 = λ x y. SomeIff r (IsBelow value_limit p × IsBelow value_limit q × IsBelow value_limit (x +ℤ y)) (x +ℤ y) in
    subst (λ x. P x q) f.1 (subst (λ y. P first y) s.1 (with_products r (first +ℤ second) h))
  where
    with_products : (r : Option ℤ) (z : ℤ) → SomeIff r (IsBelow value_limit z) z → SomeIff r (IsBelow value_limit p × IsBelow value_limit q × IsBelow value_limit z) z
    with_products None z h = λ all. h all.2
    with_products (Some x) z h = ((f.0, s.0, h.0), h.1)

-- x and y are numbers a and b
pub adds_up : (numbers : List ℤ) (a : ℕ) (m : ℤ) (b : ℕ) (n x y : ℤ) (r : Option ℤ) → pos 0 ≤ℤ m → pos 0 ≤ℤ n → Some x ≡ slice_get numbers a → Some y ≡ slice_get numbers b → SomeIff r (IsBelow value_limit (m *ℤ x) × IsBelow value_limit (n *ℤ y) × IsBelow value_limit ((m *ℤ x) +ℤ (n *ℤ y))) ((m *ℤ x) +ℤ (n *ℤ y)) → SomeIff r (AddsUp numbers a m b n) ((m *ℤ number_of numbers a) +ℤ (n *ℤ number_of numbers b))
adds_up numbers a m b n x y r first_positive second_positive first second h = by_result r h
  where
    first_is : number_of numbers a ≡ x
    first_is = get_or_from_slice_get numbers a x (pos 0) (sym first)

    second_is : number_of numbers b ≡ y
    second_is = get_or_from_slice_get numbers b y (pos 0) (sym second)

    sum_is : (m *ℤ number_of numbers a) +ℤ (n *ℤ number_of numbers b) ≡ (m *ℤ x) +ℤ (n *ℤ y)
    sum_is = ap (λ z. (m *ℤ z) +ℤ (n *ℤ number_of numbers b)) first_is ∙ ap (λ z. (m *ℤ x) +ℤ (n *ℤ z)) second_is

    small_along : (y z : ℤ) → y ≡ z → IsBelow value_limit y → IsBelow value_limit z
    small_along y z e h = subst (λ x. IsBelow value_limit x) e h

    by_result : (r : Option ℤ) → SomeIff r (IsBelow value_limit (m *ℤ x) × IsBelow value_limit (n *ℤ y) × IsBelow value_limit ((m *ℤ x) +ℤ (n *ℤ y))) ((m *ℤ x) +ℤ (n *ℤ y)) → SomeIff r (AddsUp numbers a m b n) ((m *ℤ number_of numbers a) +ℤ (n *ℤ number_of numbers b))
    by_result None h = λ sums. h (small_along _ _ (ap (λ z. m *ℤ z) first_is) sums.first_small, small_along _ _ (ap (λ z. n *ℤ z) second_is) sums.second_small, small_along _ _ sum_is sums.sum_small)
    by_result (Some z) h = (
      record {
        first_stands = slice_get_within numbers a x (sym first);
        second_stands = slice_get_within numbers b y (sym second);
        first_positive = first_positive;
        second_positive = second_positive;
        first_small = small_along _ _ (ap (λ z. m *ℤ z) (sym first_is)) h.0.0;
        second_small = small_along _ _ (ap (λ z. n *ℤ z) (sym second_is)) h.0.1;
        sum_small = small_along _ _ (sym sum_is) h.0.2;
      },
      h.1 ∙ sym sum_is,
    )
