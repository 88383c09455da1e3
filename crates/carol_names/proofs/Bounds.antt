-- Bounds on the numbers of sums and multiples.
use Rattle.std.proofs.Common.{◌≡◌, ◌≢◌, ℕ, zero, suc, ◌+◌, ◌*◌, ◌<◌, ◌≤◌, Bool, true, false, List, [], ◌∷◌, ◌++◌, ℤ, refl, sym, ap, ◌∙◌, subst, arith}
use Rattle.std.specs.Prelude.{Option, Some, None, IfSome, ◌==◌, ◌+ℤ◌, ◌*ℤ◌, pos, negsuc, unsigned_abs, ◌^◌, if◌then◌else◌, nat_le, ◌&&◌}
use Rattle.std.proofs.lemmas.Int.{ints, unsigned_abs-mul}
use Rattle.std.proofs.lemmas.Bool.{leb-true}
use Rattle.std.proofs.Math.Nat.{mul-le-mul}
use Rattle.std.proofs.Math.IntN.{+ℤ_idl, +ℤ_idr}
use Rattle.carol_formula.specs.Bounds.{IsBelow, term_limit}
use Rattle.carol_formula.specs.Linear.{Linear, AscendsFrom, AllBelow, IsNormal, IsWithin, IsTerm, coefficient_of, times, normal_of, sum_of, scaled, difference_of, constant_of, variable_of}
use Rattle.carol_formula.proofs.Orders.{by_same}
use Rattle.carol_formula.proofs.Products.{coefficient_of-append, coefficient_of-times, coefficient_of-normal_of, coefficient_of-first, coefficient_of-absent, AllFrom-ascends, AllFrom-zero, AscendsFrom-normal_of, NoneZero-normal_of}
use Rattle.carol_program.specs.Limits.{largest_coefficient, largest_constant}
use Rattle.carol_meaning.specs.Terms.{added, are_small, is_small}
use Rattle.carol_names.specs.Bounded.{IsBounded, most_value, most_product, most_sum}

pub abs-sum : (a b : ℤ) → unsigned_abs (a +ℤ b) ≤ unsigned_abs a + unsigned_abs b
abs-sum a b = omega (arith, ints)

abs-sum-le : (a b : ℤ) (m n : ℕ) → unsigned_abs a ≤ m → unsigned_abs b ≤ n → unsigned_abs (a +ℤ b) ≤ m + n
abs-sum-le a b m n h k = omega (arith, abs-sum a b)

abs-mul-le : (a b : ℤ) (m n : ℕ) → unsigned_abs a ≤ m → unsigned_abs b ≤ n → unsigned_abs (a *ℤ b) ≤ m * n
abs-mul-le a b m n h k = rw (unsigned_abs-mul a b) (mul-le-mul h k)

-- a sum is bounded by the sum of the bounds
pub bounded-sum : (a b : ℕ) (s t : Linear) → IsBounded a s → IsBounded b t → IsBounded (a + b) (sum_of s t)
bounded-sum a b s t h k = record {
  coefficients = λ v. rw (coefficient_of-normal_of v (s.pairs ++ t.pairs), coefficient_of-append v s.pairs t.pairs) (abs-sum-le (coefficient_of v s.pairs) (coefficient_of v t.pairs) a b (h.coefficients v) (k.coefficients v));
  constant = abs-sum-le s.rest t.rest a b h.constant k.constant;
}

-- a multiple is bounded by the product of the bounds
pub bounded-scaled : (m b : ℕ) (k : ℤ) (t : Linear) → unsigned_abs k ≤ m → IsBounded b t → IsBounded (m * b) (scaled k t)
bounded-scaled m b k t h bounded = record {
  coefficients = λ v. rw (coefficient_of-normal_of v (times k t.pairs), coefficient_of-times v k t.pairs) (abs-mul-le k (coefficient_of v t.pairs) m b h (bounded.coefficients v));
  constant = abs-mul-le k t.rest m b h bounded.constant;
}

pub bounded-more : (a b : ℕ) (t : Linear) → a ≤ b → IsBounded a t → IsBounded b t
bounded-more a b t le h = record { coefficients = λ v. omega (arith, h.coefficients v); constant = omega (arith, h.constant) }

-- the coefficients of the products behind the first
rest-below : (limit : ℕ) (p : ℕ × ℤ) (ps : List (ℕ × ℤ)) → AscendsFrom (p.0 + 1) ps → (v : ℕ) → unsigned_abs (coefficient_of v (p ∷ ps)) < limit → unsigned_abs (coefficient_of v ps) < limit
rest-below limit p ps ascends v =
    by_same v p.0 (λ b. unsigned_abs ((if b then p.1 else pos 0) +ℤ coefficient_of v ps) < limit → unsigned_abs (coefficient_of v ps) < limit)
    (λ e h. rw (coefficient_of-absent v (p.0 + 1) ps (omega (arith, e)) (AllFrom-ascends (p.0 + 1) ps ascends)) (omega (arith, h)))
    (λ n h. subst (λ (z : ℤ). unsigned_abs z < limit) (+ℤ_idl (coefficient_of v ps)) h)

below-from : (limit low : ℕ) (ps : List (ℕ × ℤ)) → AscendsFrom low ps → ((v : ℕ) → unsigned_abs (coefficient_of v ps) < limit) → AllBelow limit ps
below-from limit low [] h below = tt
below-from limit low (p ∷ ps) h below = (
  subst (λ (z : ℤ). unsigned_abs z < limit) (coefficient_of-first p ps h.1) (below p.0),
  below-from limit (p.0 + 1) ps h.1 (λ v. rest-below limit p ps h.1 v (below v)),
)

-- a bounded term in normal form is within a limit above the bound
pub bounded-within : (b limit : ℕ) (t : Linear) → IsNormal t → b < limit → IsBounded b t → IsWithin limit t
bounded-within b limit t normal lt h = record {
  coefficients = below-from limit 0 t.pairs normal.ascends (λ v. omega (arith, h.coefficients v));
  constant = omega (arith, h.constant);
}

-- ---- terms of the code

-- three sums of 256 products stay below the limit of a term
pub within-limit : (b : ℕ) (t : Linear) → IsNormal t → b ≤ 3 * most_sum → IsBounded b t → IsWithin term_limit t
within-limit b t normal le h = bounded-within b term_limit t normal (omega arith) h

normal_of-normal : (xs : List (ℕ × ℤ)) (r : ℤ) → IsNormal (record { pairs = normal_of xs; rest = r })
normal_of-normal xs r = record { ascends = AscendsFrom-normal_of 0 xs (AllFrom-zero xs); none_zero = NoneZero-normal_of xs }

pub sum-within : (a b : ℕ) (s t : Linear) → a + b ≤ 3 * most_sum → IsBounded a s → IsBounded b t → IsWithin term_limit (sum_of s t)
sum-within a b s t le h k = within-limit (a + b) (sum_of s t) (normal_of-normal (s.pairs ++ t.pairs) (s.rest +ℤ t.rest)) le (bounded-sum a b s t h k)

pub product-bounded : (k : ℤ) (t : Linear) → unsigned_abs k ≤ 10 ^ 12 → IsBounded most_value t → IsBounded most_product (scaled k t)
product-bounded k t h b = bounded-scaled (10 ^ 12) most_value k t h b

pub product-within : (k : ℤ) (t : Linear) → unsigned_abs k ≤ 10 ^ 12 → IsBounded most_value t → IsWithin term_limit (scaled k t)
product-within k t h b = within-limit most_product (scaled k t) (normal_of-normal (times k t.pairs) (k *ℤ t.rest)) (omega arith) (product-bounded k t h b)

pub minus-bounded : (b : ℕ) (t : Linear) → IsBounded b t → IsBounded b (scaled (negsuc 0) t)
minus-bounded b t h = bounded-more (1 * b) b (scaled (negsuc 0) t) (omega arith) (bounded-scaled 1 b (negsuc 0) t (omega arith) h)

pub difference-bounded : (s t : Linear) → IsBounded most_sum s → IsBounded most_sum t → IsBounded (most_sum + most_sum) (difference_of s t)
difference-bounded s t h k = bounded-sum most_sum most_sum s (scaled (negsuc 0) t) h (minus-bounded most_sum t k)

pub difference-within : (s t : Linear) → IsBounded most_sum s → IsBounded most_sum t → IsWithin term_limit (difference_of s t)
difference-within s t h k = sum-within most_sum most_sum s (scaled (negsuc 0) t) (omega arith) h (minus-bounded most_sum t k)

-- a number by itself
pub constant-bounded : (k : ℤ) (b : ℕ) → unsigned_abs k ≤ b → IsBounded b (constant_of k)
constant-bounded k b h = record { coefficients = λ v. omega arith; constant = h }

-- ---- sums that are made a product at a time

pub sum-of-sum-within : (s t : Linear) → IsBounded (most_sum + most_sum) s → IsBounded most_sum t → IsWithin term_limit (sum_of s t)
sum-of-sum-within s t h k = sum-within (most_sum + most_sum) most_sum s t (omega arith) h k

-- one product more
pub added-bounded : (n : ℕ) (s t : Option Linear) → IfSome s (IsBounded (n * most_product)) → IfSome t (IsBounded most_product) → IfSome (added s t) (IsBounded ((n + 1) * most_product))
added-bounded n None t h k = tt
added-bounded n (Some s) None h k = tt
added-bounded n (Some s) (Some t) h k = bounded-more (n * most_product + most_product) ((n + 1) * most_product) (sum_of s t) (omega arith) (bounded-sum (n * most_product) most_product s t h k)

-- up to 256 products
pub few-bounded : (n : ℕ) (s : Option Linear) → n ≤ 256 → IfSome s (IsBounded (n * most_product)) → IfSome s (IsBounded most_sum)
few-bounded n None le h = tt
few-bounded n (Some s) le h = bounded-more (n * most_product) most_sum s (omega arith) h

pub more-bounded : (n : ℕ) (s t new : Option Linear) → new ≡ added s t → IfSome s (IsBounded (n * most_product)) → IfSome t (IsBounded most_product) → IfSome new (IsBounded ((n + 1) * most_product))
more-bounded n s t new made h k = rw made (added-bounded n s t h k)

-- ---- terms in normal form whose products are bounded

abbrev pub AtMost : ℕ → List (ℕ × ℤ) → Type 0
AtMost b [] = Unit {0}
AtMost b (p ∷ ps) = (unsigned_abs p.1 ≤ b) × AtMost b ps

pub coefficients-bounded : (b low : ℕ) (ps : List (ℕ × ℤ)) → AscendsFrom low ps → AtMost b ps → (v : ℕ) → unsigned_abs (coefficient_of v ps) ≤ b
coefficients-bounded b low [] ascends most v = omega arith
coefficients-bounded b low (p ∷ ps) ascends most v =
    by_same v p.0 (λ same. unsigned_abs ((if same then p.1 else pos 0) +ℤ coefficient_of v ps) ≤ b)
    (λ e. rw (coefficient_of-absent v (p.0 + 1) ps (omega (arith, e)) (AllFrom-ascends (p.0 + 1) ps ascends.1), +ℤ_idr p.1) most.0)
    (λ n. rw (+ℤ_idl (coefficient_of v ps)) (coefficients-bounded b (p.0 + 1) ps ascends.1 most.1 v))

pub normal-bounded : (b : ℕ) (t : Linear) → IsNormal t → AtMost b t.pairs → unsigned_abs t.rest ≤ b → IsBounded b t
normal-bounded b t normal most rest = record { coefficients = coefficients-bounded b 0 t.pairs normal.ascends most; constant = rest }

and_first : (a b : Bool) → (a && b) ≡ true → a ≡ true
and_first true b h = refl
and_first false b h = h

and_second : (a b : Bool) → (a && b) ≡ true → b ≡ true
and_second a true h = refl
and_second true false h = h
and_second false false h = h

small-most : (ps : List (ℕ × ℤ)) → are_small ps ≡ true → AtMost most_value ps
small-most [] h = tt
small-most (p ∷ ps) h = (
  omega (arith, leb-true (unsigned_abs p.1) largest_coefficient (and_first (nat_le (unsigned_abs p.1) largest_coefficient) (are_small ps) h)),
  small-most ps (and_second (nat_le (unsigned_abs p.1) largest_coefficient) (are_small ps) h),
)

-- a small term of the code
pub small-bounded : (t : Linear) → IsNormal t → is_small t ≡ true → IsBounded most_value t
small-bounded t normal h =
    normal-bounded most_value t normal (small-most t.pairs (and_first (are_small t.pairs) (nat_le (unsigned_abs t.rest) largest_constant) h))
    (leb-true (unsigned_abs t.rest) largest_constant (and_second (are_small t.pairs) (nat_le (unsigned_abs t.rest) largest_constant) h))

-- a variable by itself
pub variable-bounded : (v : ℕ) → IsBounded 1 (variable_of v)
variable-bounded v = normal-bounded 1 (variable_of v) (record { ascends = (omega arith, tt); none_zero = (λ h. omega (arith, ints, h), tt) }) (omega arith, tt) (omega arith)
