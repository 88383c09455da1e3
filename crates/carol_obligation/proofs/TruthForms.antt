-- What it says that a formula is true, by its form.
use Rattle.std.proofs.Common.{◌≡◌, ℕ, Bool, true, false, inl, inr, arith, refl, sym, ◌∙◌, ap}
use Rattle.std.specs.Prelude.{◌↔◌, ◌⊎◌, ◌&&◌, ◌||◌, not, ℤ, pos, ◌+ℤ◌, ◌-ℤ◌, ◌*ℤ◌, ◌≤ℤ◌}
use Rattle.std.proofs.lemmas.Int.{ints}
use Rattle.carol_formula.specs.Claim.{Claim, Le, And, Or, Not, is_at_most_zero, truth}
use Rattle.carol_formula.specs.Linear.{Linear, constant_of, variable_of, difference_of}
use Rattle.carol_formula.specs.Value.{value_at}
use Rattle.carol_formula.proofs.Claims.{at_most_zero, is_at_most_zero_from}
use Rattle.carol_formula.proofs.Sums.{value_at-difference_of}
use Rattle.carol_obligation.proofs.Equivalences.{chain, both, swapped}
use Rattle.carol_program.specs.Rows.{at_most}
use Rattle.carol_obligation.specs.Formed.{with_test}

either : {A B C D : Type 0} → A ↔ B → C ↔ D → (A ⊎ C) ↔ (B ⊎ D)
either {A = A} {B = B} {C = C} {D = D} h k = (forth, back_again)
  where
    forth : A ⊎ C → B ⊎ D
    forth (inl a) = inl (h.0 a)
    forth (inr c) = inr (k.0 c)

    back_again : B ⊎ D → A ⊎ C
    back_again (inl b) = inl (h.1 b)
    back_again (inr d) = inr (k.1 d)

-- ---- formulas

-- the formula is true exactly where this is so
pub record Says (c : Claim) (f : ℕ → ℤ) (P : Type 0) : Type 0 where
  pub is : (truth c f ≡ true) ↔ P

and-parts : (b c : Bool) → ((b && c) ≡ true) ↔ ((b ≡ true) × (c ≡ true))
and-parts true c = (λ h. (refl, h), λ h. h.1)
and-parts false c = (λ h. cc, λ h. h.0)

or-parts : (b c : Bool) → ((b || c) ≡ true) ↔ ((b ≡ true) ⊎ (c ≡ true))
or-parts true c = (λ h. inl refl, λ h. refl)
or-parts false c = (λ h. inr h, right)
  where
    right : (false ≡ true) ⊎ (c ≡ true) → c ≡ true
    right (inl h) = cc
    right (inr h) = h

not-part : (b : Bool) → (not b ≡ true) ↔ (b ≡ false)
not-part true = (λ h. cc, λ h. cc)
not-part false = (λ h. refl, λ h. refl)

pub denied : (b : Bool) → (not b ≡ false) ↔ (b ≡ true)
denied true = (λ h. refl, λ h. refl)
denied false = (λ h. cc, λ h. cc)

pub says-so : {c : Claim} {f : ℕ → ℤ} {P Q : Type 0} → Says c f P → P ↔ Q → Says c f Q
says-so h k = record { is = chain h.is k }

-- what an equal test says
pub says-as : {c : Claim} {f : ℕ → ℤ} (b : Bool) → truth c f ≡ b → Says c f (b ≡ true)
says-as {c = c} {f = f} b e = record { is = swapped (truth c f) b true e }

pub says-and : {c d : Claim} {f : ℕ → ℤ} {P Q : Type 0} → Says c f P → Says d f Q → Says (And c d) f (P × Q)
says-and {c = c} {d = d} {f = f} h k = record { is = chain (and-parts (truth c f) (truth d f)) (both h.is k.is) }

-- the second need only say so where the first is true
pub says-then : {c d : Claim} {f : ℕ → ℤ} {P Q : Type 0} → Says c f P → (P → Says d f Q) → Says (And c d) f (P × Q)
says-then {c = c} {d = d} {f = f} {P = P} {Q = Q} h k = record { is = chain (and-parts (truth c f) (truth d f)) (forth, back_again) }
  where
    forth : (truth c f ≡ true) × (truth d f ≡ true) → P × Q
    forth a = (h.is.0 a.0, (k (h.is.0 a.0)).is.0 a.1)

    back_again : P × Q → (truth c f ≡ true) × (truth d f ≡ true)
    back_again b = (h.is.1 b.0, (k b.0).is.1 b.1)

pub says-or : {c d : Claim} {f : ℕ → ℤ} {P Q : Type 0} → Says c f P → Says d f Q → Says (Or c d) f (P ⊎ Q)
says-or {c = c} {d = d} {f = f} h k = record { is = chain (or-parts (truth c f) (truth d f)) (either h.is k.is) }

pub says-not : {c : Claim} {f : ℕ → ℤ} (b : Bool) → truth c f ≡ b → Says (Not c) f (b ≡ false)
says-not {c = c} {f = f} b e = record { is = chain (not-part (truth c f)) (swapped (truth c f) b false e) }

pub says-test : (test : Claim) (side : Bool) {known : Claim} {f : ℕ → ℤ} {P : Type 0} → Says known f P → Says (with_test test side known) f (P × (truth test f ≡ side))
says-test test true {f = f} h = says-and h (says-as (truth test f) refl)
says-test test false {f = f} h = says-and h (says-not (truth test f) refl)

pub says-le : (t : Linear) (f : ℕ → ℤ) (z : ℤ) → value_at t f ≡ z → Says (Le t) f (z ≤ℤ pos 0)
says-le t f z e = record { is = (λ h. at_most_zero z (sym (ap is_at_most_zero e) ∙ h), λ h. ap is_at_most_zero e ∙ is_at_most_zero_from z h) }

-- the numbers are the terms' values
pub says-at_most : (s t : Linear) (f : ℕ → ℤ) (x y : ℤ) → value_at s f ≡ x → value_at t f ≡ y → Says (at_most s t) f (x ≤ℤ y)
says-at_most s t f x y d e = says-so (says-le (difference_of s t) f (value_at s f -ℤ value_at t f) (value_at-difference_of s t f)) (turned (value_at s f) (value_at t f) d e)
  where
    turned : (u w : ℤ) → u ≡ x → w ≡ y → ((u -ℤ w) ≤ℤ pos 0) ↔ (x ≤ℤ y)
    turned u w d e = (λ h. omega (arith, ints), λ h. omega (arith, ints))

-- ---- terms

pub value_at-variable : (v : ℕ) (f : ℕ → ℤ) → value_at (variable_of v) f ≡ f v
value_at-variable v f = alone (f v)
  where
    alone : (z : ℤ) → ((pos 1 *ℤ z) +ℤ pos 0) +ℤ pos 0 ≡ z
    alone z = omega (arith, ints)

pub value_at-constant : (z : ℤ) (f : ℕ → ℤ) → value_at (constant_of z) f ≡ z
value_at-constant z f = omega (arith, ints)
