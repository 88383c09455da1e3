-- Bounds of one variable, as quotients.
use Rattle.std.proofs.Common.{ℕ, suc, ◌<◌, ◌≤◌, ◌≡◌, ◌*◌, ◌/◌, ◌∙◌, ap, arith}
use Rattle.std.specs.Prelude.{◌↔◌, ℤ, pos, negsuc, neg_ℤ, ◌+ℤ◌, ◌-ℤ◌, ◌*ℤ◌, ◌≤ℤ◌, ◌<ℤ◌, unsigned_abs}
use Rattle.std.specs.Int.{int_div_euclid}
use Rattle.std.proofs.lemmas.Int.{ints}
use Rattle.std.proofs.Math.IntN.{+ℤ_idl, *ℤ_comm}
use Rattle.std.proofs.Math.Nat.{le-div_iff_mul-le, div-lt_iff_lt-mul}
use Rattle.carol_formula.specs.Division.{floor_of}
use Rattle.carol_formula.proofs.Integers.{neg-mul}
use Rattle.carol_formula.proofs.Division.{positive_abs, int_div_euclid-floor_of, below_floor_of}

-- d times what is at most the quotient is at most z
within_floor_of : (d : ℕ) (s z : ℤ) → 0 < d → s ≤ℤ floor_of z d → (pos d *ℤ s) ≤ℤ z
within_floor_of d (pos n) (pos a) positive h =
    let le : n ≤ a / d = omega (arith, ints) in
    let fits : n * d ≤ a = (le-div_iff_mul-le positive).0 le in
    omega (arith, ints)
within_floor_of d (negsuc n) (pos a) positive h = omega (arith, ints)
within_floor_of d (pos n) (negsuc a) positive h = absurd (omega (arith, ints))
within_floor_of d (negsuc n) (negsuc a) positive h =
    let lt : a / d < suc n = omega (arith, ints) in
    let fits : a < suc n * d = (div-lt_iff_lt-mul positive).0 lt in
    omega (arith, ints)

-- what the quotient of the rest bounds
floor_exact : (c s z : ℤ) → pos 0 <ℤ c → ((s +ℤ (c *ℤ z)) ≤ℤ pos 0) ↔ (z ≤ℤ floor_of (neg_ℤ s) (unsigned_abs c))
floor_exact (pos n) s z h =
    (λ below. below_floor_of n z (neg_ℤ s) (positive_abs (pos n) h) (omega (arith, ints)), λ at_most. let le = within_floor_of n z (neg_ℤ s) (positive_abs (pos n) h) at_most in omega (arith, ints))
floor_exact (negsuc n) s z h = absurd (omega (arith, ints))

pub upper_exact : (c s z : ℤ) → pos 0 <ℤ c → ((s +ℤ (c *ℤ z)) ≤ℤ pos 0) ↔ (z ≤ℤ int_div_euclid (pos 0 -ℤ s) c)
upper_exact c s z h =
    let q = ap (λ (y : ℤ). int_div_euclid y c) (+ℤ_idl (neg_ℤ s)) ∙ int_div_euclid-floor_of (neg_ℤ s) c h in
    let exact = floor_exact c s z h in
    (λ below. let le = exact.0 below in omega (arith, ints), λ at_most. exact.1 (omega (arith, ints)))

-- a bound above of the variable's negative is one below
pub lower_exact : (c s q : ℤ) → ((y : ℤ) → ((s +ℤ ((pos 0 -ℤ c) *ℤ y)) ≤ℤ pos 0) ↔ (y ≤ℤ q)) → (z : ℤ) → ((s +ℤ (c *ℤ z)) ≤ℤ pos 0) ↔ ((pos 0 -ℤ q) ≤ℤ z)
lower_exact c s q exact z =
    let same = turned_product c z in
    let turned = exact (neg_ℤ z) in
    (λ below. let le = turned.0 (omega (arith, ints)) in omega (arith, ints), λ at_least. let le = turned.1 (omega (arith, ints)) in omega (arith, ints))
  where
    turned_product : (c z : ℤ) → (pos 0 -ℤ c) *ℤ neg_ℤ z ≡ c *ℤ z
    turned_product c z = omega (arith, ints, ap (λ (d : ℤ). d *ℤ neg_ℤ z) (+ℤ_idl (neg_ℤ c)), neg-mul c (neg_ℤ z), *ℤ_comm c (neg_ℤ z), neg-mul z c, *ℤ_comm c z)
