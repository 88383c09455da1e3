-- Values of rows where one variable's number is changed.
use Rattle.std.proofs.Common.{ℕ, ◌≡◌, ◌≢◌, Bool, List, [], ◌∷◌, refl, sym, ◌∙◌, ap, arith}
use Rattle.std.specs.Prelude.{◌==◌, if◌then◌else◌, ℤ, pos, ◌+ℤ◌, ◌*ℤ◌}
use mathlib.Core.Path.{fun_ext}
use Rattle.std.proofs.Math.IntN.{+ℤ_idl, +ℤ_idr, *ℤ-zero, zero-*ℤ}
use Rattle.carol_formula.specs.Linear.{Linear, constant_of, without_of, scaled}
use Rattle.carol_formula.specs.Numbers.{number_at, with_number}
use Rattle.carol_formula.specs.Value.{value_at, set_at}
use Rattle.carol_formula.proofs.Orders.{by_order, by_same, other-eq, equal-eq}
use Rattle.carol_formula.proofs.Sums.{value_at-sum_of, value_at-scaled, value_at-replaced}
use Rattle.carol_elimination.specs.Stage.{factor_of}

-- ---- numbers

pub at_itself : (x : ℕ) (z : ℤ) (f : ℕ → ℤ) → set_at x z f x ≡ z
at_itself x z f = ap (λ (b : Bool). if b then z else f x) (equal-eq x x refl)

pub at_other : (x v : ℕ) (z : ℤ) (f : ℕ → ℤ) → v ≢ x → set_at x z f v ≡ f v
at_other x v z f n = ap (λ (b : Bool). if b then z else f v) (other-eq v x n)

pub set_own : (x : ℕ) (f : ℕ → ℤ) → set_at x (f x) f ≡ f
set_own x f = fun_ext (λ v. by_same v x (λ b. (if b then f x else f v) ≡ f v) (λ e. ap f (sym e)) (λ _. refl))

pub set_twice : (x : ℕ) (y z : ℤ) (f : ℕ → ℤ) → set_at x y (set_at x z f) ≡ set_at x y f
set_twice x y z f = fun_ext (λ v. by_same v x (λ b. (if b then y else if b then z else f v) ≡ (if b then y else f v)) (λ _. refl) (λ _. refl))

pub set_apart : (x v : ℕ) (y z : ℤ) (f : ℕ → ℤ) → v ≢ x → set_at v y (set_at x z f) ≡ set_at x z (set_at v y f)
set_apart x v y z f n = fun_ext (λ w. by_same w v (λ b. (if b then y else set_at x z f w) ≡ (if w == x then z else if b then y else f w))
    (λ e. sym (ap (λ (b : Bool). if b then z else y) (other-eq w x (λ s. n (sym e ∙ s)))))
    (λ _. refl))

number_is : (x w : ℕ) (z : ℤ) (ps : List (ℕ × ℤ)) → number_at (with_number x z ps) w ≡ set_at x z (number_at ps) w
number_is x w z [] = refl
number_is x w z (p ∷ ps) = by_order x p.0 (λ a b. number_at (if a then ((x, z) ∷ p ∷ ps) else if b then ((x, z) ∷ ps) else (p ∷ with_number x z ps)) w ≡ set_at x z (number_at (p ∷ ps)) w)
    (λ _. refl)
    (λ e. by_same w x (λ b. (if b then z else number_at ps w) ≡ (if b then z else if w == p.0 then p.1 else number_at ps w)) (λ _. refl) (λ n. sym (ap (λ (b : Bool). if b then p.1 else number_at ps w) (other-eq w p.0 (λ s. n (s ∙ sym e))))))
    (λ h. ap (λ (y : ℤ). if w == p.0 then p.1 else y) (number_is x w z ps) ∙ by_same w p.0 (λ b. (if b then p.1 else set_at x z (number_at ps) w) ≡ (if w == x then z else if b then p.1 else number_at ps w))
    (λ e. sym (ap (λ (b : Bool). if b then z else p.1) (other-eq w x (λ s. absurd (omega (arith, h, e, s))))))
    (λ _. refl))

-- a valuation in which the variable got a number
pub number_at-with_number : (x : ℕ) (z : ℤ) (ps : List (ℕ × ℤ)) → number_at (with_number x z ps) ≡ set_at x z (number_at ps)
number_at-with_number x z ps = fun_ext (λ w. number_is x w z ps)

-- ---- rows

value_set : (x : ℕ) (z : ℤ) (t : Linear) (f : ℕ → ℤ) → value_at t (set_at x z f) ≡ value_at (without_of x t) f +ℤ (factor_of x t *ℤ z)
value_set x z t f =
    sym (ap (λ (y : ℤ). value_at t (set_at x y f)) (+ℤ_idl z))
    ∙ sym (value_at-replaced x (constant_of z) t f)
    ∙ value_at-sum_of (without_of x t) (scaled (factor_of x t) (constant_of z)) f
    ∙ ap (λ (y : ℤ). value_at (without_of x t) f +ℤ y) (value_at-scaled (factor_of x t) (constant_of z) f ∙ ap (λ (y : ℤ). factor_of x t *ℤ y) (+ℤ_idl z))

-- where the variable is 0 so far
pub value_from_zero : (x : ℕ) (z : ℤ) (t : Linear) (f : ℕ → ℤ) → f x ≡ pos 0 → value_at t (set_at x z f) ≡ value_at t f +ℤ (factor_of x t *ℤ z)
value_from_zero x z t f zero_so_far = value_set x z t f ∙ ap (λ (y : ℤ). y +ℤ (factor_of x t *ℤ z)) (sym at_zero)
  where
    at_zero : value_at t f ≡ value_at (without_of x t) f
    at_zero = ap (value_at t) (sym (set_own x f)) ∙ value_set x (f x) t f ∙ ap (λ (y : ℤ). value_at (without_of x t) f +ℤ y) (ap (λ (y : ℤ). factor_of x t *ℤ y) zero_so_far ∙ *ℤ-zero (factor_of x t)) ∙ +ℤ_idr (value_at (without_of x t) f)

-- a row without the variable
pub value_free : (x : ℕ) (z : ℤ) (t : Linear) (f : ℕ → ℤ) → factor_of x t ≡ pos 0 → value_at t (set_at x z f) ≡ value_at t f
value_free x z t f free = alone z ∙ sym (ap (value_at t) (sym (set_own x f)) ∙ alone (f x))
  where
    alone : (y : ℤ) → value_at t (set_at x y f) ≡ value_at (without_of x t) f
    alone y = value_set x y t f ∙ ap (λ (c : ℤ). value_at (without_of x t) f +ℤ (c *ℤ y)) free ∙ ap (λ (c : ℤ). value_at (without_of x t) f +ℤ c) (zero-*ℤ y) ∙ +ℤ_idr (value_at (without_of x t) f)
