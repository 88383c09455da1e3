-- What is light is within limits, and fits.
use Rattle.std.proofs.Common.{ℕ, ◌+◌, ◌*◌, ◌≤◌, ◌<◌, ◌≡◌, List, [], ◌∷◌, ◌++◌, length, arith, refl, sym, ◌∙◌, ap, subst}
use Rattle.std.specs.Prelude.{if◌then◌else◌, ℤ, pos, negsuc, unsigned_abs, ◌+ℤ◌, ◌*ℤ◌}
use Rattle.std.proofs.lemmas.Int.{ints, unsigned_abs-mul}
use Rattle.std.proofs.Math.Nat.{mul-le-mul_left, mul-le-mul_right}
use Rattle.carol_formula.specs.Bounds.{IsBelow, AreNear}
use Rattle.carol_formula.specs.Linear.{Linear, AllBelow, IsWithin, kept, with_product, normal_of, times, sum_of, scaled, difference_of}
use Rattle.carol_formula.specs.Value.{sum_at, value_at, SumFits, FitsWithin}
use Rattle.carol_formula.specs.Weight.{mass, weight}
use Rattle.carol_formula.proofs.Orders.{by_order, by_zero}

-- ---- what is made of parts is no heavier

mass-append : (xs ys : List (ℕ × ℤ)) → mass (xs ++ ys) ≡ mass xs + mass ys
mass-append [] ys = omega arith
mass-append (x ∷ xs) ys = omega (arith, mass-append xs ys)

mass-times : (k : ℤ) (ps : List (ℕ × ℤ)) → mass (times k ps) ≡ unsigned_abs k * mass ps
mass-times k [] = omega arith
mass-times k (p ∷ ps) = omega (arith, unsigned_abs-mul k p.1, mass-times k ps)

mass-kept : (v : ℕ) (c : ℤ) (ps : List (ℕ × ℤ)) → mass (kept v c ps) ≤ unsigned_abs c + mass ps
mass-kept v c ps = by_zero c (λ b. mass (if b then ps else ((v, c) ∷ ps)) ≤ unsigned_abs c + mass ps) (λ _. omega arith) (λ _. omega arith)

abs-add : (a b : ℤ) → unsigned_abs (a +ℤ b) ≤ unsigned_abs a + unsigned_abs b
abs-add a b = omega (arith, ints)

mass-with_product : (v : ℕ) (c : ℤ) (ps : List (ℕ × ℤ)) → mass (with_product v c ps) ≤ unsigned_abs c + mass ps
mass-with_product v c [] = mass-kept v c []
mass-with_product v c (p ∷ ps) = by_order v p.0 (λ a b. mass (if a then kept v c (p ∷ ps) else if b then kept v (c +ℤ p.1) ps else (p ∷ with_product v c ps)) ≤ unsigned_abs c + mass (p ∷ ps))
    (λ _. mass-kept v c (p ∷ ps))
    (λ _. omega (arith, mass-kept v (c +ℤ p.1) ps, abs-add c p.1))
    (λ _. omega (arith, mass-with_product v c ps))

mass-normal_of : (ps : List (ℕ × ℤ)) → mass (normal_of ps) ≤ mass ps
mass-normal_of [] = omega arith
mass-normal_of (p ∷ ps) = omega (arith, mass-with_product p.0 p.1 (normal_of ps), mass-normal_of ps)

pub mass-sum_of : (s t : Linear) → mass (sum_of s t).pairs ≤ mass s.pairs + mass t.pairs
mass-sum_of s t = omega (arith, mass-normal_of (s.pairs ++ t.pairs), mass-append s.pairs t.pairs)

pub mass-scaled : (k : ℤ) (t : Linear) → mass (scaled k t).pairs ≤ unsigned_abs k * mass t.pairs
mass-scaled k t = omega (arith, mass-normal_of (times k t.pairs), mass-times k t.pairs)

pub weight-sum_of : (s t : Linear) → weight (sum_of s t) ≤ weight s + weight t
weight-sum_of s t = omega (arith, mass-sum_of s t, abs-add s.rest t.rest)

pub weight-scaled : (k : ℤ) (t : Linear) → weight (scaled k t) ≤ unsigned_abs k * weight t
weight-scaled k t = omega (arith, mass-scaled k t, unsigned_abs-mul k t.rest)

pub weight-difference_of : (s t : Linear) → weight (difference_of s t) ≤ weight s + weight t
weight-difference_of s t = omega (arith, weight-sum_of s (scaled (negsuc 0) t), weight-scaled (negsuc 0) t)

-- ---- what is light is within a limit

light_below : (limit : ℕ) (ps : List (ℕ × ℤ)) → mass ps < limit → AllBelow limit ps
light_below limit [] h = tt
light_below limit (p ∷ ps) h = (omega (arith, h), light_below limit ps (omega (arith, h)))

pub IsWithin-weight : (limit : ℕ) (t : Linear) → weight t < limit → IsWithin limit t
IsWithin-weight limit t h = record { coefficients = light_below limit t.pairs (omega (arith, h)); constant = omega (arith, h) }

-- what is within a limit has a mass of as many times the limit as there are products
pub mass-bound : (limit : ℕ) (ps : List (ℕ × ℤ)) → AllBelow limit ps → mass ps ≤ length ps * limit
mass-bound limit [] h = omega arith
mass-bound limit (p ∷ ps) h = omega (arith, h.0, mass-bound limit ps h.1)

-- ---- what is light fits, where the numbers are near

product_near : (bound : ℕ) (c x : ℤ) → unsigned_abs x ≤ bound → unsigned_abs (c *ℤ x) ≤ unsigned_abs c * bound
product_near bound c x h = omega (arith, unsigned_abs-mul c x, mul-le-mul_left (unsigned_abs c) h)

pub sum_at-near : (bound : ℕ) (ps : List (ℕ × ℤ)) (f : ℕ → ℤ) → AreNear bound f → unsigned_abs (sum_at ps f) ≤ mass ps * bound
sum_at-near bound [] f near = omega arith
sum_at-near bound (p ∷ ps) f near = omega (arith, abs-add (p.1 *ℤ f p.0) (sum_at ps f), product_near bound p.1 (f p.0) (near p.0), sum_at-near bound ps f near)

sum_fits : (limit bound : ℕ) (before : ℤ) (ps : List (ℕ × ℤ)) (rest : ℤ) (f : ℕ → ℤ) → AreNear bound f → unsigned_abs before + mass ps * bound + unsigned_abs rest < limit → SumFits limit before ps rest f
sum_fits limit bound before [] rest f near h = omega (arith, abs-add before rest, h)
sum_fits limit bound before (p ∷ ps) rest f near h =
    let product = product_near bound p.1 (f p.0) (near p.0) in
    let sum = abs-add before (p.1 *ℤ f p.0) in
    (omega (arith, product, h), omega (arith, product, sum, h), sum_fits limit bound (before +ℤ (p.1 *ℤ f p.0)) ps rest f near (omega (arith, product, sum, h)))

pub FitsWithin-near : (limit bound : ℕ) (t : Linear) (f : ℕ → ℤ) → AreNear bound f → mass t.pairs * bound + unsigned_abs t.rest < limit → FitsWithin limit t f
FitsWithin-near limit bound t f near h = sum_fits limit bound (pos 0) t.pairs t.rest f near (omega (arith, h))

-- what fits within a limit fits within a greater one
sum_wider : (limit wider : ℕ) (before : ℤ) (ps : List (ℕ × ℤ)) (rest : ℤ) (f : ℕ → ℤ) → limit ≤ wider → SumFits limit before ps rest f → SumFits wider before ps rest f
sum_wider limit wider before [] rest f le h = omega (arith, le, h)
sum_wider limit wider before (p ∷ ps) rest f le h = (omega (arith, le, h.0), omega (arith, le, h.1), sum_wider limit wider (before +ℤ (p.1 *ℤ f p.0)) ps rest f le h.2)

pub FitsWithin-wider : (limit wider : ℕ) (t : Linear) (f : ℕ → ℤ) → limit ≤ wider → FitsWithin limit t f → FitsWithin wider t f
FitsWithin-wider limit wider t f le h = sum_wider limit wider (pos 0) t.pairs t.rest f le h
