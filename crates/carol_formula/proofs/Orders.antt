-- Cases by the order of two numbers, or by zero, where the tests stand in a goal.
use Rattle.std.proofs.Common.{ℕ, zero, suc, ◌<◌, ◌≡◌, ◌≢◌, Bool, true, false, arith, refl, sym, ◌∙◌, subst}
use Rattle.std.specs.Prelude.{◌↔◌, IsTrue, ◌==◌, nat_lt, ℤ, pos, negsuc}
use Rattle.std.proofs.lemmas.Bool.{cases_order}
use Rattle.std.proofs.lemmas.Bool.Decides.{nat_tests}
use Rattle.std.proofs.Math.Logic.{⊎_elim}
use Rattle.carol_formula.specs.Linear.{is_zero}

below-lt : (v w : ℕ) → v < w → nat_lt v w ≡ true
below-lt v w h = grind (arith, nat_tests)

equal-lt : (v w : ℕ) → v ≡ w → nat_lt v w ≡ false
equal-lt v w h = grind (arith, nat_tests)

above-lt : (v w : ℕ) → w < v → nat_lt v w ≡ false
above-lt v w h = grind (arith, nat_tests)

pub equal-eq : (v w : ℕ) → v ≡ w → (v == w) ≡ true
equal-eq v w h = grind (arith, nat_tests)

pub other-eq : (v w : ℕ) → v ≢ w → (v == w) ≡ false
other-eq v w h = grind (arith, nat_tests)

not_above : (v w : ℕ) → v < w → v ≢ w
not_above v w h e = omega arith

not_below : (v w : ℕ) → w < v → v ≢ w
not_below v w h e = omega arith

-- a fact about both tests of two numbers, by their order
pub by_order : (v w : ℕ) (P : Bool → Bool → Type 0) → (v < w → P true false) → (v ≡ w → P false true) → (w < v → P false false) → P (nat_lt v w) (v == w)
by_order v w P below same above = ⊎_elim at_same (⊎_elim at_below at_above) (cases_order v w)
  where
    at_same : v ≡ w → P (nat_lt v w) (v == w)
    at_same e = subst (λ a. P a (v == w)) (sym (equal-lt v w e)) (subst (λ b. P false b) (sym (equal-eq v w e)) (same e))

    at_below : v < w → P (nat_lt v w) (v == w)
    at_below h = subst (λ a. P a (v == w)) (sym (below-lt v w h)) (subst (λ b. P true b) (sym (other-eq v w (not_above v w h))) (below h))

    at_above : w < v → P (nat_lt v w) (v == w)
    at_above h = subst (λ a. P a (v == w)) (sym (above-lt v w h)) (subst (λ b. P false b) (sym (other-eq v w (not_below v w h))) (above h))

-- a fact about the test whether two numbers are the same
pub by_same : (v w : ℕ) (P : Bool → Type 0) → (v ≡ w → P true) → (v ≢ w → P false) → P (v == w)
by_same v w P same other = ⊎_elim (λ e. subst P (sym (equal-eq v w e)) (same e)) (⊎_elim (λ h. at_other (not_above v w h)) (λ h. at_other (not_below v w h))) (cases_order v w)
  where
    at_other : v ≢ w → P (v == w)
    at_other n = subst P (sym (other-eq v w n)) (other n)

-- a fact about the test of a whole number for zero
pub by_zero : (c : ℤ) (P : Bool → Type 0) → (c ≡ pos 0 → P true) → (c ≢ pos 0 → P false) → P (is_zero c)
by_zero (pos zero) P is other = is refl
by_zero (pos (suc n)) P is other = other (λ e. cc)
by_zero (negsuc n) P is other = other (λ e. cc)

-- neither below nor the same
pub after : (lt eq : Bool) (v w : ℕ) → IsTrue lt ↔ (v < w) → lt ≡ false → IsTrue eq ↔ (v ≡ w) → eq ≡ false → w < v
after lt eq v w h l g e = grind arith

-- what a test denies
pub denied : (b : Bool) (P : Type 0) → IsTrue b ↔ P → b ≡ false → ¬ P
denied b P h e p = absurd (true_is_not_false (sym (h.1 p) ∙ e))
  where
    true_is_not_false : true ≡ false → ⊥
    true_is_not_false q = cc
