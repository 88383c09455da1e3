-- One row more among those that bound a variable.
use Rattle.std.proofs.Common.{ℕ, zero, suc, ◌≡◌, ◌≢◌, true, List, [], ◌∷◌, ◌++◌, Option, Some, refl, sym, ◌∙◌, ap, subst, arith, inl, inr}
use Rattle.std.specs.Prelude.{◌↔◌, ◌⊎◌, IfSome, ℤ, pos, negsuc, neg_ℤ, ◌+ℤ◌, ◌*ℤ◌, ◌≤ℤ◌, ◌<ℤ◌}
use Rattle.std.proofs.lemmas.Bool.{false≢true}
use Rattle.std.proofs.lemmas.Int.{ints}
use Rattle.carol_formula.specs.Bounds.{IsBelow, term_limit}
use Rattle.carol_formula.specs.Linear.{Linear}
use Rattle.carol_formula.specs.Value.{value_at, set_at}
use Rattle.carol_elimination.specs.Stage.{factor_of, is_positive, is_upper, is_lower}
use Rattle.carol_elimination.specs.Values.{IsTrueRow}
use Rattle.carol_elimination.proofs.Rows.{among_left, among_right, among_cases}
use Rattle.carol_elimination.specs.declared.bounds.Bounds.{Bounds}
use Rattle.carol_elimination.specs.Limits.{IsAtMost, IsAtLeast, AllowAbove, AllowBelow, IsTooLow, AreBounds}
use Rattle.carol_elimination.proofs.Setting.{value_from_zero}

-- ---- the sign of a coefficient

pub positive_is : (c : ℤ) → pos 0 <ℤ c → is_positive c ≡ true
positive_is (pos zero) h = absurd (omega (arith, ints))
positive_is (pos (suc n)) h = refl
positive_is (negsuc n) h = absurd (omega (arith, ints))

pub not_positive : (c : ℤ) → c ≤ℤ pos 0 → is_positive c ≡ true → ⊥
not_positive (pos zero) h e = false≢true e
not_positive (pos (suc n)) h e = absurd (omega (arith, ints))
not_positive (negsuc n) h e = false≢true e

-- a row with the variable bounds it above or below
pub has_side : (c : ℤ) → c ≢ pos 0 → (is_positive c ≡ true) ⊎ (is_positive (neg_ℤ c) ≡ true)
has_side (pos zero) n = absurd (n refl)
has_side (pos (suc m)) n = inl refl
has_side (negsuc m) n = inr refl

pub side_stands : (c : ℤ) → (is_positive c ≡ true) ⊎ (is_positive (neg_ℤ c) ≡ true) → c ≢ pos 0
side_stands c h e = elim h [ inl above ↦ not_positive c (omega (arith, ints, e)) above | inr below ↦ not_positive (neg_ℤ c) (omega (arith, ints, e)) below ]

-- ---- one row more

above_more : (x : ℕ) (rows : List Linear) (r : Linear) (f : ℕ → ℤ) (z : ℤ) → AllowAbove x (rows ++ r ∷ []) f z ↔ (AllowAbove x rows f z × (is_upper x r ≡ true → IsTrueRow (set_at x z f) r))
above_more x rows r f z = (
  λ allow. (λ s among upper. allow s (among_left s rows (r ∷ []) among) upper, λ upper. allow r (among_right r rows (r ∷ []) (inl refl)) upper),
  λ both s among upper. elim (among_cases s rows (r ∷ []) among) [
    | inl before ↦ both.0 s before upper
    | inr last ↦ elim last [
      | inl e ↦ subst (λ (t : Linear). IsTrueRow (set_at x z f) t) (sym e) (both.1 (sym (ap (is_upper x) e) ∙ upper))
      | inr none ↦ absurd none
    ]
  ],
)

below_more : (x : ℕ) (rows : List Linear) (r : Linear) (f : ℕ → ℤ) (z : ℤ) → AllowBelow x (rows ++ r ∷ []) f z ↔ (AllowBelow x rows f z × (is_lower x r ≡ true → IsTrueRow (set_at x z f) r))
below_more x rows r f z = (
  λ allow. (λ s among lower. allow s (among_left s rows (r ∷ []) among) lower, λ lower. allow r (among_right r rows (r ∷ []) (inl refl)) lower),
  λ both s among lower. elim (among_cases s rows (r ∷ []) among) [
    | inl before ↦ both.0 s before lower
    | inr last ↦ elim last [
      | inl e ↦ subst (λ (t : Linear). IsTrueRow (set_at x z f) t) (sym e) (both.1 (sym (ap (is_lower x) e) ∙ lower))
      | inr none ↦ absurd none
    ]
  ],
)

-- a row that doesn't bound the variable on this side
above_same : (x : ℕ) (rows : List Linear) (r : Linear) (f : ℕ → ℤ) (b : Bounds) → factor_of x r ≤ℤ pos 0 → AreBounds x rows f b → (z : ℤ) → AllowAbove x (rows ++ r ∷ []) f z ↔ IsAtMost b.high z
above_same x rows r f b h are z = (
  λ allow. (are.above z).0 ((above_more x rows r f z).0 allow).0,
  λ at_most. (above_more x rows r f z).1 ((are.above z).1 at_most, λ upper. absurd (not_positive (factor_of x r) h upper)),
)

below_same : (x : ℕ) (rows : List Linear) (r : Linear) (f : ℕ → ℤ) (b : Bounds) → pos 0 ≤ℤ factor_of x r → AreBounds x rows f b → (z : ℤ) → AllowBelow x (rows ++ r ∷ []) f z ↔ IsAtLeast b.low z
below_same x rows r f b h are z = (
  λ allow. (are.below z).0 ((below_more x rows r f z).0 allow).0,
  λ at_least. (below_more x rows r f z).1 ((are.below z).1 at_least, λ lower. absurd (not_positive (neg_ℤ (factor_of x r)) (omega (arith, ints)) lower)),
)

too_low_more : (x : ℕ) (rows : List Linear) (r : Linear) (f : ℕ → ℤ) (k : ℤ) → IsTooLow x rows f k → IsTooLow x (rows ++ r ∷ []) f k
too_low_more x rows r f k h = record { row = h.row; among = among_left h.row rows (r ∷ []) h.among; lower = h.lower; positive = h.positive }

pub bounds_free : (x : ℕ) (rows : List Linear) (r : Linear) (f : ℕ → ℤ) (b : Bounds) → factor_of x r ≡ pos 0 → AreBounds x rows f b → AreBounds x (rows ++ r ∷ []) f b
bounds_free x rows r f b e are = record {
  above = above_same x rows r f b (omega (arith, ints, e)) are;
  below = below_same x rows r f b (omega (arith, ints, e)) are;
  tight = λ k low. too_low_more x rows r f k (are.tight k low);
  high_small = are.high_small;
  low_small = are.low_small;
}

-- the row is true of the number exactly where its bound allows it
true_at : (x : ℕ) (r : Linear) (f : ℕ → ℤ) (c s z : ℤ) {P : Type 0} → f x ≡ pos 0 → c ≡ factor_of x r → s ≡ value_at r f → ((s +ℤ (c *ℤ z)) ≤ℤ pos 0) ↔ P → IsTrueRow (set_at x z f) r ↔ P
true_at x r f c s z {P} zero_so_far factor rest exact = subst (λ (v : ℤ). (v ≤ℤ pos 0) ↔ P) (sym (value_from_zero x z r f zero_so_far ∙ ap (λ (y : ℤ). y +ℤ (factor_of x r *ℤ z)) (sym rest) ∙ ap (λ (y : ℤ). s +ℤ (y *ℤ z)) (sym factor))) exact

some_small : (old : Option ℤ) (bound new : ℤ) → (old ≡ Some new) ⊎ (new ≡ bound) → IfSome old (IsBelow term_limit) → IsBelow term_limit bound → IsBelow term_limit new
some_small old bound new one before small = elim one [
  | inl e ↦ subst (λ (o : Option ℤ). IfSome o (IsBelow term_limit)) e before
  | inr e ↦ subst (IsBelow term_limit) (sym e) small
]

-- a row that bounds the variable above, and the tighter one of its bound and of the one so far
pub bounds_above : (x : ℕ) (rows : List Linear) (r : Linear) (f : ℕ → ℤ) (b : Bounds) (c s bound high : ℤ) → f x ≡ pos 0 → c ≡ factor_of x r → s ≡ value_at r f → pos 0 <ℤ c → ((z : ℤ) → ((s +ℤ (c *ℤ z)) ≤ℤ pos 0) ↔ (z ≤ℤ bound)) → IsBelow term_limit bound → ((z : ℤ) → (IsAtMost b.high z × (z ≤ℤ bound)) ↔ (z ≤ℤ high)) → (b.high ≡ Some high) ⊎ (high ≡ bound) → AreBounds x rows f b → AreBounds x (rows ++ r ∷ []) f (record { low = b.low; high = Some high })
bounds_above x rows r f b c s bound high zero_so_far factor rest h exact small both one are = record {
  above = λ z. (
    λ allow. (both z).0 ((are.above z).0 ((above_more x rows r f z).0 allow).0, (true_at x r f c s z zero_so_far factor rest (exact z)).0 (((above_more x rows r f z).0 allow).1 (positive_is (factor_of x r) (omega (arith, ints))))),
    λ at_most. (above_more x rows r f z).1 ((are.above z).1 ((both z).1 at_most).0, λ _. (true_at x r f c s z zero_so_far factor rest (exact z)).1 ((both z).1 at_most).1),
  );
  below = below_same x rows r f b (omega (arith, ints)) are;
  tight = λ k low. too_low_more x rows r f k (are.tight k low);
  high_small = some_small b.high bound high one are.high_small small;
  low_small = are.low_small;
}

some_same : (y z : ℤ) → Some y ≡ Some z → y ≡ z
some_same y z e = cc

-- one that bounds it below
pub bounds_below : (x : ℕ) (rows : List Linear) (r : Linear) (f : ℕ → ℤ) (b : Bounds) (c s bound low : ℤ) → f x ≡ pos 0 → c ≡ factor_of x r → s ≡ value_at r f → c <ℤ pos 0 → ((z : ℤ) → ((s +ℤ (c *ℤ z)) ≤ℤ pos 0) ↔ (bound ≤ℤ z)) → IsBelow term_limit bound → ((z : ℤ) → (IsAtLeast b.low z × (bound ≤ℤ z)) ↔ (low ≤ℤ z)) → (b.low ≡ Some low) ⊎ (low ≡ bound) → AreBounds x rows f b → AreBounds x (rows ++ r ∷ []) f (record { low = Some low; high = b.high })
bounds_below x rows r f b c s bound low zero_so_far factor rest h exact small both one are = record {
  above = above_same x rows r f b (omega (arith, ints)) are;
  below = λ z. (
    λ allow. (both z).0 ((are.below z).0 ((below_more x rows r f z).0 allow).0, (true_at x r f c s z zero_so_far factor rest (exact z)).0 (((below_more x rows r f z).0 allow).1 is_one)),
    λ at_least. (below_more x rows r f z).1 ((are.below z).1 ((both z).1 at_least).0, λ _. (true_at x r f c s z zero_so_far factor rest (exact z)).1 ((both z).1 at_least).1),
  );
  tight = λ k e. elim one [
    | inl before ↦ too_low_more x rows r f k (are.tight k (before ∙ e))
    | inr now ↦ record { row = r; among = among_right r rows (r ∷ []) (inl refl); lower = is_one; positive = beyond k (sym now ∙ some_same low (k +ℤ pos 1) e) }
  ];
  high_small = are.high_small;
  low_small = some_small b.low bound low one are.low_small small;
}
  where
    is_one : is_lower x r ≡ true
    is_one = positive_is (neg_ℤ (factor_of x r)) (omega (arith, ints))

    above_zero : (v : ℤ) → (v ≤ℤ pos 0 → ⊥) → pos 0 <ℤ v
    above_zero (pos zero) n = absurd (n (omega (arith, ints)))
    above_zero (pos (suc m)) n = omega (arith, ints)
    above_zero (negsuc m) n = absurd (n (omega (arith, ints)))

    beyond : (k : ℤ) → bound ≡ k +ℤ pos 1 → pos 0 <ℤ value_at r (set_at x k f)
    beyond k e = above_zero (value_at r (set_at x k f)) (λ holds. let le = (true_at x r f c s k zero_so_far factor rest (exact k)).0 holds in absurd (omega (arith, ints, e)))
