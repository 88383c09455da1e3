-- A term and some times another, in the words of the public calls.
use Rattle.std.proofs.Common.{ℕ, zero, suc, ◌+◌, ◌≤◌, ◌≡◌, List, [], ◌∷◌, ◌++◌, refl, sym, ◌∙◌, ap, subst, arith}
use Rattle.std.specs.Int.{w128}
use Rattle.std.proofs.lemmas.Int.{fits_signed_from_abs, ints}
use Rattle.std.specs.Prelude.{FitsSigned, Result, Ok, Err, IfOk, ℤ, pos, negsuc, ◌+ℤ◌, ◌*ℤ◌, neg_ℤ, unsigned_abs}
use Rattle.std.proofs.lemmas.Bool.Decides.{nat_tests}
use Rattle.carol_formula.specs.Bounds.{IsBelow, term_limit, narrow_limit}
use Rattle.carol_formula.specs.Linear.{Linear, IsTerm, IsWithin, AscendsFrom, NoneZero, AllBelow, constant_of, normal_of, times, coefficient_of, without_of, replaced, plus_of, sum_of, scaled, difference_of}
use Rattle.carol_formula.specs.Value.{value_at}
use Rattle.carol_formula.specs.declared.term.TermError.{TermError}
use Rattle.std.proofs.Math.IntN.{+ℤ_idl}
use Rattle.carol_formula.proofs.Integers.{one-mul, minus_one-mul}
use Rattle.carol_formula.proofs.Products.{same_normal, normal_of-normal, AscendsFrom-normal_of, AllFrom-zero, NoneZero-normal_of, coefficient_of-append, coefficient_of-normal_of}

times-one : (xs : List (ℕ × ℤ)) → times (pos 1) xs ≡ xs
times-one [] = refl
times-one (x ∷ xs) = ap (λ c. (x.0, c) ∷ times (pos 1) xs) (one-mul x.1) ∙ ap (λ zs. x ∷ zs) (times-one xs)

pub plus_of-one : (s t : Linear) → plus_of s (pos 1) t ≡ sum_of s t
plus_of-one s t = ap (with_rest (s.rest +ℤ (pos 1 *ℤ t.rest))) (times-one t.pairs) ∙ ap with_sum (one-mul t.rest)
  where
    with_rest : ℤ → List (ℕ × ℤ) → Linear
    with_rest r ps = record { pairs = normal_of (s.pairs ++ ps); rest = r }

    with_sum : ℤ → Linear
    with_sum r = record { pairs = normal_of (s.pairs ++ t.pairs); rest = s.rest +ℤ r }

-- normal form on the way changes nothing
pub plus_of-scaled : (s : Linear) (k : ℤ) (t : Linear) → plus_of s k t ≡ sum_of s (scaled k t)
plus_of-scaled s k t = ap with_pairs (same_normal (s.pairs ++ times k t.pairs) (s.pairs ++ normal_of (times k t.pairs)) same)
  where
    with_pairs : List (ℕ × ℤ) → Linear
    with_pairs ps = record { pairs = ps; rest = s.rest +ℤ (k *ℤ t.rest) }

    same : (v : ℕ) → coefficient_of v (s.pairs ++ times k t.pairs) ≡ coefficient_of v (s.pairs ++ normal_of (times k t.pairs))
    same v = coefficient_of-append v s.pairs (times k t.pairs) ∙ ap (λ z. coefficient_of v s.pairs +ℤ z) (sym (coefficient_of-normal_of v (times k t.pairs))) ∙ sym (coefficient_of-append v s.pairs (normal_of (times k t.pairs)))

pub plus_of-minus_one : (s t : Linear) → plus_of s (negsuc 0) t ≡ difference_of s t
plus_of-minus_one s t = plus_of-scaled s (negsuc 0) t

-- what is below a term's limit fits 128 bits
pub below-fits : (z : ℤ) → IsBelow term_limit z → FitsSigned w128 z
below-fits z h = fits_signed_from_abs w128 z (omega (arith, h))

made_term : (s t : Linear) (k r : ℤ) (ps : List (ℕ × ℤ)) → (ps ≡ normal_of (s.pairs ++ times k t.pairs)) × AllBelow term_limit ps → IsBelow term_limit (s.rest +ℤ (k *ℤ t.rest)) × (r ≡ s.rest +ℤ (k *ℤ t.rest)) → (record { pairs = ps; rest = r } ≡ plus_of s k t) × IsTerm (record { pairs = ps; rest = r })
made_term s t k r ps g h = (
  same,
  subst IsTerm (sym same) (record {
    normal = record { ascends = AscendsFrom-normal_of 0 (s.pairs ++ times k t.pairs) (AllFrom-zero (s.pairs ++ times k t.pairs)); none_zero = NoneZero-normal_of (s.pairs ++ times k t.pairs) };
    within = record { coefficients = subst (AllBelow term_limit) g.0 g.1; constant = h.0 };
  }),
)
  where
    with_pairs : List (ℕ × ℤ) → Linear
    with_pairs zs = record { pairs = zs; rest = r }

    with_rest : ℤ → Linear
    with_rest z = record { pairs = normal_of (s.pairs ++ times k t.pairs); rest = z }

    same : record { pairs = ps; rest = r } ≡ plus_of s k t
    same = ap with_pairs g.0 ∙ ap with_rest h.1

-- the parts of a term and some times another make the term; each number stands twice, as it is and as its bits give it back
pub made : (s t : Linear) (k k' r r' a b : ℤ) (xs ys ps : List (ℕ × ℤ)) → k' ≡ k → r' ≡ r → a ≡ s.rest → b ≡ t.rest → xs ≡ s.pairs → ys ≡ t.pairs → (ps ≡ normal_of (xs ++ times k' ys)) × AllBelow term_limit ps → IsBelow term_limit (a +ℤ (k' *ℤ b)) × (r ≡ a +ℤ (k' *ℤ b)) → (record { pairs = ps; rest = r' } ≡ plus_of s k t) × IsTerm (record { pairs = ps; rest = r' })
made s t k k' r r' a b xs ys ps e f x y m n g h =
    subst (λ z. (record { pairs = ps; rest = z } ≡ plus_of s k t) × IsTerm (record { pairs = ps; rest = z })) (sym f)
    (subst (λ j. (record { pairs = ps; rest = r } ≡ plus_of s j t) × IsTerm (record { pairs = ps; rest = r })) e
    (made_term s t k' r ps
    (subst (λ zs. (ps ≡ normal_of (zs ++ times k' t.pairs)) × AllBelow term_limit ps) m (subst (λ zs. (ps ≡ normal_of (xs ++ times k' zs)) × AllBelow term_limit ps) n g))
    (subst (λ z. IsBelow term_limit (z +ℤ (k' *ℤ t.rest)) × (r ≡ z +ℤ (k' *ℤ t.rest))) x (subst (λ z. IsBelow term_limit (a +ℤ (k' *ℤ z)) × (r ≡ a +ℤ (k' *ℤ z))) y h))))

-- none of a variable and some times another
pub plus_of-zero : (k : ℤ) (t : Linear) → plus_of (constant_of (pos 0)) k t ≡ scaled k t
plus_of-zero k t = ap (λ (r : ℤ). record { pairs = normal_of (times k t.pairs); rest = r }) (+ℤ_idl (k *ℤ t.rest))

-- what replaces a variable
pub replaced_from : (v : ℕ) (by t others : Linear) (k : ℤ) → others ≡ without_of v t → k ≡ coefficient_of v t.pairs → plus_of others k by ≡ replaced v by t
replaced_from v by t others k e g = ap (λ (u : Linear). plus_of u k by) e ∙ ap (λ (j : ℤ). plus_of (without_of v t) j by) g ∙ plus_of-scaled (without_of v t) (coefficient_of v t.pairs) by

-- what is said of the true result is said of the answer
pub ok_values : (s : Linear) (r : Result Linear TermError) {V : (ℕ → ℤ) → ℤ} → IfOk r (λ t. (t ≡ s) × IsTerm t) → ((f : ℕ → ℤ) → value_at s f ≡ V f) → IfOk r (λ t. (f : ℕ → ℤ) → value_at t f ≡ V f)
ok_values s (Ok t) h e = λ f. ap (λ (u : Linear). value_at u f) h.0 ∙ e f
ok_values s (Err x) h e = tt

-- ---- what is narrow can be denied

abs-neg : (z : ℤ) → unsigned_abs (negsuc 0 *ℤ z) ≡ unsigned_abs z
abs-neg z = ap unsigned_abs (minus_one-mul z) ∙ turned z
  where
    turned : (z : ℤ) → unsigned_abs (neg_ℤ z) ≡ unsigned_abs z
    turned (pos zero) = refl
    turned (pos (suc n)) = refl
    turned (negsuc n) = refl

abs-one_minus : (z : ℤ) → unsigned_abs (pos 1 +ℤ (negsuc 0 *ℤ z)) ≤ suc (unsigned_abs z)
abs-one_minus z = subst (λ n. unsigned_abs (pos 1 +ℤ n) ≤ suc (unsigned_abs z)) (sym (minus_one-mul z)) (counted z)
  where
    counted : (z : ℤ) → unsigned_abs (pos 1 +ℤ neg_ℤ z) ≤ suc (unsigned_abs z)
    counted (pos zero) = omega arith
    counted (pos (suc n)) = below n
      where
        below : (n : ℕ) → unsigned_abs (pos 1 +ℤ negsuc n) ≤ suc (suc n)
        below n = grind (arith, nat_tests)
    counted (negsuc n) = omega arith

negated_below : (ps : List (ℕ × ℤ)) → AllBelow narrow_limit ps → AllBelow term_limit (times (negsuc 0) ps)
negated_below [] h = tt
negated_below (p ∷ ps) h = (omega (arith, h.0, abs-neg p.1), negated_below ps h.1)

negated_ascends : (low : ℕ) (ps : List (ℕ × ℤ)) → AscendsFrom low ps → AscendsFrom low (times (negsuc 0) ps)
negated_ascends low [] a = tt
negated_ascends low (p ∷ ps) a = (a.0, negated_ascends (p.0 + 1) ps a.1)

negated_nonzero : (ps : List (ℕ × ℤ)) → NoneZero ps → NoneZero (times (negsuc 0) ps)
negated_nonzero [] n = tt
negated_nonzero (p ∷ ps) n = (λ e. n.0 (omega (arith, ints, sym (minus_one-mul p.1) ∙ e)), negated_nonzero ps n.1)

pub denial_within : (t : Linear) → IsTerm t → IsWithin narrow_limit t → IsWithin term_limit (difference_of (constant_of (pos 1)) t)
denial_within t h n = record {
  coefficients = subst (AllBelow term_limit) (sym (normal_of-normal (normal_of turned) (AscendsFrom-normal_of 0 turned (AllFrom-zero turned)) (NoneZero-normal_of turned) ∙ normal_of-normal turned (negated_ascends 0 t.pairs h.normal.ascends) (negated_nonzero t.pairs h.normal.none_zero))) (negated_below t.pairs n.coefficients);
  constant = omega (arith, abs-one_minus t.rest, n.constant);
}
  where
    turned : List (ℕ × ℤ)
    turned = times (negsuc 0) t.pairs
