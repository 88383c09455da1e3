-- Variables that lie in given ranges, through sums and multiples, and how many products a term can have.
use Rattle.std.proofs.Common.{ℕ, ◌+◌, ◌<◌, ◌≤◌, List, [], ◌∷◌, ◌++◌, length, arith}
use Rattle.std.specs.Prelude.{ℤ, negsuc, ◌+ℤ◌, ◌*ℤ◌, if◌then◌else◌}
use Rattle.carol_formula.specs.Linear.{Linear, AscendsFrom, IsNormal, kept, with_product, normal_of, times, sum_of, scaled, difference_of}
use Rattle.carol_formula.proofs.Orders.{by_order, by_zero}
use Rattle.carol_formula.proofs.Products.{AscendsFrom-normal_of, AllFrom-zero, NoneZero-normal_of}
use Rattle.carol_program.specs.Variables.{IsAmong, AreAmong}
use Rattle.carol_program.specs.Limits.{most_products}

-- the ranges end below the most products of a term
abbrev pub AreNarrow : List (ℕ × ℕ) → Type 0
AreNarrow ranges = (v : ℕ) → IsAmong ranges v → v < most_products

-- what lies in some ranges lies in the others
abbrev pub Widens : List (ℕ × ℕ) → List (ℕ × ℕ) → Type 0
Widens some more = (v : ℕ) → IsAmong some v → IsAmong more v

-- as many variables from the first on lie in the ranges
abbrev pub HaveRange : List (ℕ × ℕ) → ℕ → ℕ → Type 0
HaveRange ranges first count = (v : ℕ) → first ≤ v → v < first + count → IsAmong ranges v

-- a term in normal form, whose variables lie in the ranges
pub record IsTermIn (ranges : List (ℕ × ℕ)) (t : Linear) : Type 0 where
  pub variables : AreAmong ranges t.pairs
  pub normal : IsNormal t

pub AreAmong-wider : (some more : List (ℕ × ℕ)) → Widens some more → (ps : List (ℕ × ℤ)) → AreAmong some ps → AreAmong more ps
AreAmong-wider some more wider [] h = tt
AreAmong-wider some more wider (p ∷ ps) h = (wider p.0 h.0, AreAmong-wider some more wider ps h.1)

module _ (ranges : List (ℕ × ℕ)) where
  -- ---- sums and multiples

  AreAmong-append : (ps qs : List (ℕ × ℤ)) → AreAmong ranges ps → AreAmong ranges qs → AreAmong ranges (ps ++ qs)
  AreAmong-append [] qs h k = k
  AreAmong-append (p ∷ ps) qs h k = (h.0, AreAmong-append ps qs h.1 k)

  AreAmong-times : (k : ℤ) (ps : List (ℕ × ℤ)) → AreAmong ranges ps → AreAmong ranges (times k ps)
  AreAmong-times k [] h = tt
  AreAmong-times k (p ∷ ps) h = (h.0, AreAmong-times k ps h.1)

  AreAmong-kept : (v : ℕ) (c : ℤ) (ps : List (ℕ × ℤ)) → IsAmong ranges v → AreAmong ranges ps → AreAmong ranges (kept v c ps)
  AreAmong-kept v c ps m h = by_zero c (λ b. AreAmong ranges (if b then ps else ((v, c) ∷ ps))) (λ _. h) (λ _. (m, h))

  AreAmong-with_product : (v : ℕ) (c : ℤ) (ps : List (ℕ × ℤ)) → IsAmong ranges v → AreAmong ranges ps → AreAmong ranges (with_product v c ps)
  AreAmong-with_product v c [] m h = AreAmong-kept v c [] m tt
  AreAmong-with_product v c (p ∷ ps) m h = by_order v p.0 (λ a b. AreAmong ranges (if a then kept v c (p ∷ ps) else if b then kept v (c +ℤ p.1) ps else (p ∷ with_product v c ps)))
      (λ _. AreAmong-kept v c (p ∷ ps) m h)
      (λ _. AreAmong-kept v (c +ℤ p.1) ps m h.1)
      (λ _. (h.0, AreAmong-with_product v c ps m h.1))

  AreAmong-normal_of : (ps : List (ℕ × ℤ)) → AreAmong ranges ps → AreAmong ranges (normal_of ps)
  AreAmong-normal_of [] h = tt
  AreAmong-normal_of (p ∷ ps) h = AreAmong-with_product p.0 p.1 (normal_of ps) h.0 (AreAmong-normal_of ps h.1)

  -- products in normal form, beside any constant
  normal-in : (ps : List (ℕ × ℤ)) (rest : ℤ) → AreAmong ranges ps → IsTermIn ranges (record { pairs = normal_of ps; rest = rest })
  normal-in ps rest h = record {
    variables = AreAmong-normal_of ps h;
    normal = record { ascends = AscendsFrom-normal_of 0 ps (AllFrom-zero ps); none_zero = NoneZero-normal_of ps };
  }

  pub sum-in : (s t : Linear) → AreAmong ranges s.pairs → AreAmong ranges t.pairs → IsTermIn ranges (sum_of s t)
  sum-in s t h k = normal-in (s.pairs ++ t.pairs) (s.rest +ℤ t.rest) (AreAmong-append s.pairs t.pairs h k)

  pub scaled-in : (k : ℤ) (t : Linear) → AreAmong ranges t.pairs → IsTermIn ranges (scaled k t)
  scaled-in k t h = normal-in (times k t.pairs) (k *ℤ t.rest) (AreAmong-times k t.pairs h)

  pub difference-in : (s t : Linear) → AreAmong ranges s.pairs → AreAmong ranges t.pairs → IsTermIn ranges (difference_of s t)
  difference-in s t h k = sum-in s (scaled (negsuc 0) t) h (scaled-in (negsuc 0) t k).variables

  -- ---- lengths

  -- variables that ascend below a bound are no more than the bound
  ascending-short : AreNarrow ranges → (low : ℕ) (ps : List (ℕ × ℤ)) → low ≤ most_products → AscendsFrom low ps → AreAmong ranges ps → low + length ps ≤ most_products
  ascending-short narrow low [] le ascends h = omega (arith, le)
  ascending-short narrow low (p ∷ ps) le ascends h =
      let below = narrow p.0 h.0 in
      omega (arith, ascends.0, ascending-short narrow (p.0 + 1) ps (omega (arith, below)) ascends.1 h.1)

  pub short : (t : Linear) → AreNarrow ranges → IsTermIn ranges t → length t.pairs ≤ most_products
  short t narrow h = omega (arith, ascending-short narrow 0 t.pairs (omega arith) h.normal.ascends h.variables)
