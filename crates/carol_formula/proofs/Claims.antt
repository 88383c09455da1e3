-- Formulas: truth after a substitution and without `Not`, and how cases are counted.
use Rattle.std.proofs.Common.{ℕ, zero, suc, ◌+◌, ◌*◌, ◌≤◌, min, ◌≡◌, Bool, true, false, arith, refl, sym, ◌∙◌, ap, subst}
use Rattle.std.specs.Prelude.{IsTrue, not, ◌&&◌, ◌||◌, ℤ, pos, negsuc, ◌+ℤ◌, ◌≤ℤ◌, neg_ℤ}
use Rattle.std.proofs.lemmas.Bool.{false≢true}
use Rattle.std.proofs.lemmas.Int.{ints}
use Rattle.std.proofs.Math.Nat.{mul-le-mul_left, mul-le-mul_right}
use Rattle.carol_formula.specs.Linear.{Linear, is_zero, constant_of}
use Rattle.carol_formula.specs.Value.{value_at, set_at}
use Rattle.carol_formula.specs.Claim.{Claim, True, False, Le, Eq, Ne, And, Or, Not, is_at_most_zero, truth, HasNoNot, with_term, without_not, cases_of}
use Rattle.carol_formula.specs.Tree.{claim_of}
use Rattle.carol_formula.specs.declared.formula.Formula.{Formula}
use Rattle.carol_formula.proofs.Sums.{value_at-replaced, value_at-difference_of}

-- ---- the tests

pub at_most_zero : (z : ℤ) → IsTrue (is_at_most_zero z) → z ≤ℤ pos 0
at_most_zero (pos zero) h = omega (arith, ints)
at_most_zero (pos (suc n)) h = absurd (false≢true h)
at_most_zero (negsuc n) h = omega (arith, ints)

pub is_at_most_zero_from : (z : ℤ) → z ≤ℤ pos 0 → IsTrue (is_at_most_zero z)
is_at_most_zero_from (pos zero) h = refl
is_at_most_zero_from (pos (suc n)) h = absurd (omega (arith, ints))
is_at_most_zero_from (negsuc n) h = refl

pub zero_from : (z : ℤ) → IsTrue (is_zero z) → z ≡ pos 0
zero_from (pos zero) h = refl
zero_from (pos (suc n)) h = absurd (false≢true h)
zero_from (negsuc n) h = absurd (false≢true h)

-- ---- substitution

pub truth-with_term : (v : ℕ) (by : Linear) (c : Claim) (f : ℕ → ℤ) → truth (with_term v by c) f ≡ truth c (set_at v (value_at by f) f)
truth-with_term v by True f = refl
truth-with_term v by False f = refl
truth-with_term v by (Le t) f = ap is_at_most_zero (value_at-replaced v by t f)
truth-with_term v by (Eq t) f = ap is_zero (value_at-replaced v by t f)
truth-with_term v by (Ne t) f = ap (λ z. not (is_zero z)) (value_at-replaced v by t f)
truth-with_term v by (And a b) f = ap (λ x. x && truth (with_term v by b) f) (truth-with_term v by a f) ∙ ap (λ y. truth a (set_at v (value_at by f) f) && y) (truth-with_term v by b f)
truth-with_term v by (Or a b) f = ap (λ x. x || truth (with_term v by b) f) (truth-with_term v by a f) ∙ ap (λ y. truth a (set_at v (value_at by f) f) || y) (truth-with_term v by b f)
truth-with_term v by (Not a) f = ap not (truth-with_term v by a f)

pub replaced_truth : (v : ℕ) (by : Linear) (c : Claim) (g : Formula) → claim_of g ≡ with_term v by c → (f : ℕ → ℤ) → truth (claim_of g) f ≡ truth c (set_at v (value_at by f) f)
replaced_truth v by c g h f = ap (λ d. truth d f) h ∙ truth-with_term v by c f

-- ---- denial

-- a claim, or its denial
abbrev signed : Bool → Bool → Bool
signed true b = b
signed false b = not b

above_zero : (z : ℤ) → is_at_most_zero (pos 1 +ℤ neg_ℤ z) ≡ not (is_at_most_zero z)
above_zero (pos zero) = refl
above_zero (pos (suc zero)) = refl
above_zero (pos (suc (suc n))) = ap is_at_most_zero (below n)
  where
    below : (n : ℕ) → pos 1 +ℤ negsuc (suc n) ≡ negsuc n
    below n = omega (arith, ints)
above_zero (negsuc n) = ap (λ (m : ℕ). is_at_most_zero (pos m)) (above n)
  where
    above : (n : ℕ) → 1 + suc n ≡ suc (suc n)
    above n = omega arith

not-not : (b : Bool) → not (not b) ≡ b
not-not true = refl
not-not false = refl

not-and : (a b : Bool) → not a || not b ≡ not (a && b)
not-and true b = refl
not-and false b = refl

not-or : (a b : Bool) → not a && not b ≡ not (a || b)
not-or true b = refl
not-or false b = refl

signed-not : (flag b : Bool) → signed (not flag) b ≡ signed flag (not b)
signed-not true b = refl
signed-not false b = sym (not-not b)

truth-without_not : (flag : Bool) (c : Claim) (f : ℕ → ℤ) → truth (without_not flag c) f ≡ signed flag (truth c f)
truth-without_not true True f = refl
truth-without_not false True f = refl
truth-without_not true False f = refl
truth-without_not false False f = refl
truth-without_not true (Le t) f = refl
truth-without_not false (Le t) f = ap is_at_most_zero (value_at-difference_of (constant_of (pos 1)) t f) ∙ above_zero (value_at t f)
truth-without_not true (Eq t) f = refl
truth-without_not false (Eq t) f = refl
truth-without_not true (Ne t) f = refl
truth-without_not false (Ne t) f = sym (not-not (is_zero (value_at t f)))
truth-without_not true (And a b) f = ap (λ x. x && truth (without_not true b) f) (truth-without_not true a f) ∙ ap (λ y. truth a f && y) (truth-without_not true b f)
truth-without_not false (And a b) f = ap (λ x. x || truth (without_not false b) f) (truth-without_not false a f) ∙ ap (λ y. not (truth a f) || y) (truth-without_not false b f) ∙ not-and (truth a f) (truth b f)
truth-without_not true (Or a b) f = ap (λ x. x || truth (without_not true b) f) (truth-without_not true a f) ∙ ap (λ y. truth a f || y) (truth-without_not true b f)
truth-without_not false (Or a b) f = ap (λ x. x && truth (without_not false b) f) (truth-without_not false a f) ∙ ap (λ y. not (truth a f) && y) (truth-without_not false b f) ∙ not-or (truth a f) (truth b f)
truth-without_not flag (Not a) f = truth-without_not (not flag) a f ∙ signed-not flag (truth a f)

HasNoNot-without_not : (flag : Bool) (c : Claim) → HasNoNot (without_not flag c)
HasNoNot-without_not true True = tt
HasNoNot-without_not false True = tt
HasNoNot-without_not true False = tt
HasNoNot-without_not false False = tt
HasNoNot-without_not true (Le t) = tt
HasNoNot-without_not false (Le t) = tt
HasNoNot-without_not true (Eq t) = tt
HasNoNot-without_not false (Eq t) = tt
HasNoNot-without_not true (Ne t) = tt
HasNoNot-without_not false (Ne t) = tt
HasNoNot-without_not true (And a b) = (HasNoNot-without_not true a, HasNoNot-without_not true b)
HasNoNot-without_not false (And a b) = (HasNoNot-without_not false a, HasNoNot-without_not false b)
HasNoNot-without_not true (Or a b) = (HasNoNot-without_not true a, HasNoNot-without_not true b)
HasNoNot-without_not false (Or a b) = (HasNoNot-without_not false a, HasNoNot-without_not false b)
HasNoNot-without_not flag (Not a) = HasNoNot-without_not (not flag) a

-- ---- cases

cases-positive : (c : Claim) → 1 ≤ cases_of c
cases-positive True = omega arith
cases-positive False = omega arith
cases-positive (Le t) = omega arith
cases-positive (Eq t) = omega arith
cases-positive (Ne t) = omega arith
cases-positive (And a b) = product_positive (cases_of a) (cases_of b) (cases-positive a) (cases-positive b)
  where
    product_positive : (m n : ℕ) → 1 ≤ m → 1 ≤ n → 1 ≤ m * n
    product_positive m n h k = omega (arith, mul-le-mul_left m k)
cases-positive (Or a b) = omega (arith, cases-positive a)
cases-positive (Not a) = omega arith

capped : (m n k : ℕ) → 1 ≤ m → 1 ≤ n → min (min m k * min n k) k ≡ min (m * n) k
capped m n k h i = grind (arith, mul-le-mul_left, mul-le-mul_right)

pub capped_cases : (a b : Claim) (k : ℕ) → min (min (cases_of a) k * min (cases_of b) k) k ≡ min (cases_of a * cases_of b) k
capped_cases a b k = capped (cases_of a) (cases_of b) k (cases-positive a) (cases-positive b)

-- what a formula says that is the claim, or its denial, without `Not`
pub form_truth : (flag : Bool) (c : Claim) (g : Formula) → claim_of g ≡ without_not flag c → (f : ℕ → ℤ) → truth (claim_of g) f ≡ signed flag (truth c f)
form_truth flag c g h f = ap (λ d. truth d f) h ∙ truth-without_not flag c f

pub form_plain : (flag : Bool) (c : Claim) (g : Formula) → claim_of g ≡ without_not flag c → HasNoNot (claim_of g)
form_plain flag c g h = subst HasNoNot (sym h) (HasNoNot-without_not flag c)

pub capped_and : (p r s k : ℕ) (a b c : Claim) → c ≡ And a b → r ≡ min (cases_of a) k → s ≡ min (cases_of b) k → p ≡ min (r * s) k → p ≡ min (cases_of c) k
capped_and p r s k a b c e f g h = h ∙ ap (λ m. min (m * s) k) f ∙ ap (λ n. min (min (cases_of a) k * n) k) g ∙ capped_cases a b k ∙ ap (λ d. min (cases_of d) k) (sym e)
