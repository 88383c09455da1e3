-- What rows that stand for all rows of a list say of all of them.
use Rattle.std.proofs.Common.{ℕ, zero, suc, ◌*◌, ◌/◌, ◌<◌, ◌≤◌, ◌≡◌, true, List, [], ◌∷◌, ◌++◌, inl, inr, refl, sym, ◌∙◌, ap, subst, arith}
use Rattle.std.specs.Prelude.{◌⊎◌, flat_map, ℤ, pos, negsuc, neg_ℤ, ◌+ℤ◌, ◌*ℤ◌, ◌≤ℤ◌}
use Rattle.std.proofs.lemmas.Int.{ints}
use Rattle.std.proofs.lemmas.Bool.{false≢true}
use Rattle.std.proofs.Math.Nat.{mul-le-mul_left, le-div_iff_mul-le, div-mul-le_self}
use Rattle.carol_formula.specs.Linear.{Linear, is_zero, coefficient_of, times, normal_of}
use Rattle.carol_formula.specs.Division.{floor_of, ceiling_of, quotient_of}
use Rattle.carol_elimination.specs.Tightened.{content, divided, tightened}
use Rattle.carol_elimination.specs.Stage.{Among, factor_of, is_upper, is_lower, multiplier, lower_part, least, without, uppers, lowers, combinations, next, eliminated}
use Rattle.carol_elimination.specs.Stands.{IsIdle, Dominates, IsDominated, Stand}
use Rattle.carol_elimination.proofs.Rows.{among_left, among_right, among_cases, among_filter, filter_among, among_map, map_among, among_flat_map, flat_map_among}

-- ---- division keeps the order

div-le-div : (a b d : ℕ) → 0 < d → a ≤ b → a / d ≤ b / d
div-le-div a b d positive h =
    let below : (a / d) * d ≤ a = div-mul-le_self a d in
    (le-div_iff_mul-le positive).1 (omega arith)

floor_of-le : (d : ℕ) (y z : ℤ) → 0 < d → y ≤ℤ z → floor_of y d ≤ℤ floor_of z d
floor_of-le d (pos a) (pos b) positive h =
    let le : a / d ≤ b / d = div-le-div a b d positive (omega (arith, ints)) in
    omega (arith, ints)
floor_of-le d (pos a) (negsuc b) positive h = absurd (omega (arith, ints))
floor_of-le d (negsuc a) (pos b) positive h = omega (arith, ints)
floor_of-le d (negsuc a) (negsuc b) positive h =
    let le : b / d ≤ a / d = div-le-div b a d positive (omega (arith, ints)) in
    omega (arith, ints)

ceiling_of-le : (d : ℕ) (y z : ℤ) → 0 < d → y ≤ℤ z → ceiling_of y d ≤ℤ ceiling_of z d
ceiling_of-le d y z positive h =
    let le = floor_of-le d (neg_ℤ z) (neg_ℤ y) positive (omega (arith, ints)) in
    omega (arith, ints)

pos-mul-le : (m : ℕ) (y z : ℤ) → y ≤ℤ z → (pos m *ℤ y) ≤ℤ (pos m *ℤ z)
pos-mul-le m (pos a) (pos b) h = let le = mul-le-mul_left {m = a} {n = b} m (omega (arith, ints)) in omega (arith, ints)
pos-mul-le m (pos a) (negsuc b) h = absurd (omega (arith, ints))
pos-mul-le m (negsuc a) (pos b) h = omega (arith, ints)
pos-mul-le m (negsuc a) (negsuc b) h = let le = mul-le-mul_left {m = b} {n = a} m (omega (arith, ints)) in omega (arith, ints)

-- ---- one row dominates another

pub dominates_trans : (k r s : Linear) → Dominates k r → Dominates r s → Dominates k s
dominates_trans k r s h g =
    let first = h.tighter in
    let second = g.tighter in
    record { same = g.same ∙ h.same; tighter = omega (arith, ints) }

pub dominates_refl : (r : Linear) → Dominates r r
dominates_refl r = record { same = refl; tighter = omega (arith, ints) }

dominates_divided : (d : ℕ) (k r : Linear) → Dominates k r → Dominates (divided d k) (divided d r)
dominates_divided zero k r h = h
dominates_divided (suc d) k r h = record {
  same = ap (λ (ps : List (ℕ × ℤ)). (quotient_of (suc d) (record { pairs = ps; rest = pos 0 })).pairs) h.same;
  tighter = ceiling_of-le (suc d) r.rest k.rest (omega arith) h.tighter;
}

pub dominates_tightened : (k r : Linear) → Dominates k r → Dominates (tightened k) (tightened r)
dominates_tightened k r h = subst (λ (d : ℕ). Dominates (tightened k) (divided d r)) (sym (ap content h.same)) (dominates_divided (content k.pairs) k r h)

-- the products of a combination
abbrev combined : ℕ → List (ℕ × ℤ) → List (ℕ × ℤ) → List (ℕ × ℤ)
combined x us ls = normal_of (normal_of (times (multiplier (coefficient_of x us) (coefficient_of x ls)) us) ++ normal_of (times (multiplier (coefficient_of x ls) (coefficient_of x us)) ls))

same_products : (x : ℕ) (us us' ls ls' : List (ℕ × ℤ)) → us ≡ us' → ls ≡ ls' → combined x us ls ≡ combined x us' ls'
same_products x us us' ls ls' e g = ap (λ (ps : List (ℕ × ℤ)). combined x ps ls) e ∙ ap (combined x us') g

-- the constant of a combination grows with each row's
tighter_sum : (m n : ℕ) (a a' b b' : ℤ) → a ≤ℤ a' → b ≤ℤ b' → ((pos m *ℤ a) +ℤ (pos n *ℤ b)) ≤ℤ ((pos m *ℤ a') +ℤ (pos n *ℤ b'))
tighter_sum m n a a' b b' h g =
    let first = pos-mul-le m a a' h in
    let second = pos-mul-le n b b' g in
    omega (arith, ints, first, second)

multiplier_same : (x : ℕ) (us us' ls ls' : List (ℕ × ℤ)) → us ≡ us' → ls ≡ ls' → multiplier (coefficient_of x us) (coefficient_of x ls) ≡ multiplier (coefficient_of x us') (coefficient_of x ls')
multiplier_same x us us' ls ls' e g = ap (λ (ps : List (ℕ × ℤ)). multiplier (coefficient_of x ps) (coefficient_of x ls)) e ∙ ap (λ (ps : List (ℕ × ℤ)). multiplier (coefficient_of x us') (coefficient_of x ps)) g

dominates_least : (x : ℕ) (k l r s : Linear) → Dominates k r → Dominates l s → Dominates (least x k l) (least x r s)
dominates_least x k l r s h g =
    let first = ap (λ (m : ℤ). m *ℤ r.rest) (multiplier_same x r.pairs k.pairs s.pairs l.pairs h.same g.same) in
    let second = ap (λ (n : ℤ). n *ℤ s.rest) (multiplier_same x s.pairs l.pairs r.pairs k.pairs g.same h.same) in
    let sum = tighter_sum _ _ r.rest k.rest s.rest l.rest h.tighter g.tighter in
    record {
      same = same_products x r.pairs k.pairs s.pairs l.pairs h.same g.same;
      tighter = subst (λ (z : ℤ). z ≤ℤ (least x k l).rest) (sym (ap (λ (z : ℤ). z +ℤ (lower_part x r s).rest) first ∙ ap (λ (z : ℤ). (multiplier (factor_of x k) (factor_of x l) *ℤ r.rest) +ℤ z) second)) sum;
    }

-- ---- rows that stand for all

pub stand_refl : (rows : List Linear) → Stand rows rows
stand_refl rows = record { chosen = λ r h. h; left_out = λ r h. inr (record { by = r; among = h; dominates = dominates_refl r }) }

idle_below : (k r : Linear) → Dominates k r → IsIdle k → IsIdle r
idle_below k r h g =
    let tighter = h.tighter in
    let holds = g.holds in
    record { no_variable = h.same ∙ g.no_variable; holds = omega (arith, ints) }

pub stand_trans : (kept some rows : List Linear) → Stand kept some → Stand some rows → Stand kept rows
stand_trans kept some rows h g = record {
  chosen = λ r k. g.chosen r (h.chosen r k);
  left_out = λ r k. elim (g.left_out r k) [
    | inl idle ↦ inl idle
    | inr d ↦ elim (h.left_out d.by d.among) [
      | inl idle ↦ inl (idle_below d.by r d.dominates idle)
      | inr e ↦ inr (record { by = e.by; among = e.among; dominates = dominates_trans e.by d.by r e.dominates d.dominates })
    ]
  ];
}

-- a row that takes part in an elimination isn't idle
upper_not_idle : (x : ℕ) (r : Linear) → is_upper x r ≡ true → IsIdle r → ⊥
upper_not_idle x r h idle = false≢true (sym (ap (λ (ps : List (ℕ × ℤ)). is_upper x (record { pairs = ps; rest = pos 0 })) idle.no_variable) ∙ h)

pub lower_not_idle : (x : ℕ) (r : Linear) → is_lower x r ≡ true → IsIdle r → ⊥
lower_not_idle x r h idle = false≢true (sym (ap (λ (ps : List (ℕ × ℤ)). is_lower x (record { pairs = ps; rest = pos 0 })) idle.no_variable) ∙ h)

-- a test of the coefficients alone is the same of a row that dominates
pub upper_same : (x : ℕ) (k r : Linear) → Dominates k r → is_upper x r ≡ is_upper x k
upper_same x k r h = ap (λ (ps : List (ℕ × ℤ)). is_upper x (record { pairs = ps; rest = pos 0 })) h.same

pub lower_same : (x : ℕ) (k r : Linear) → Dominates k r → is_lower x r ≡ is_lower x k
lower_same x k r h = ap (λ (ps : List (ℕ × ℤ)). is_lower x (record { pairs = ps; rest = pos 0 })) h.same

free_same : (x : ℕ) (k r : Linear) → Dominates k r → is_zero (factor_of x r) ≡ is_zero (factor_of x k)
free_same x k r h = ap (λ (ps : List (ℕ × ℤ)). is_zero (coefficient_of x ps)) h.same

-- what stands in the next stage: a row without the variable, or a combination of two rows
pub record IsCombination (x : ℕ) (r : Linear) (rows : List Linear) : Type 0 where
  pub upper : Linear
  pub lower : Linear
  pub upper_among : Among upper rows
  pub lower_among : Among lower rows
  pub bounds_above : is_upper x upper ≡ true
  pub bounds_below : is_lower x lower ≡ true
  pub is : r ≡ tightened (least x upper lower)

pub next_cases : (x : ℕ) (r : Linear) (rows : List Linear) → Among r (next x rows) → (Among r rows × (is_zero (factor_of x r) ≡ true)) ⊎ IsCombination x r rows
next_cases x r rows h = elim (among_cases r (without x rows) (flat_map (combinations x (lowers x rows)) (uppers x rows)) h) [
  | inl k ↦ inl (filter_among (λ s. is_zero (factor_of x s)) r rows k)
  | inr k ↦
      let u = flat_map_among (combinations x (lowers x rows)) r (uppers x rows) k in
      let l = map_among (λ s. tightened (least x u.of s)) r (lowers x rows) u.is in
      let above = filter_among (is_upper x) u.of rows u.among in
      let below = filter_among (is_lower x) l.of rows l.among in
      inr (record { upper = u.of; lower = l.of; upper_among = above.0; lower_among = below.0; bounds_above = above.1; bounds_below = below.1; is = l.is })
]

pub next_kept : (x : ℕ) (r : Linear) (rows : List Linear) → Among r rows → is_zero (factor_of x r) ≡ true → Among r (next x rows)
next_kept x r rows h t = among_left r (without x rows) _ (among_filter (λ s. is_zero (factor_of x s)) r rows h t)

pub next_combined : (x : ℕ) (u l : Linear) (rows : List Linear) → Among u rows → is_upper x u ≡ true → Among l rows → is_lower x l ≡ true → Among (tightened (least x u l)) (next x rows)
next_combined x u l rows hu tu hl tl =
    among_right (tightened (least x u l)) (without x rows) _
    (among_flat_map (combinations x (lowers x rows)) _ u (uppers x rows) (among_filter (is_upper x) u rows hu tu)
    (among_map (λ s. tightened (least x u s)) l (lowers x rows) (among_filter (is_lower x) l rows hl tl)))

-- a row of the kept ones that dominates one which isn't idle
pub dominating : (kept rows : List Linear) (r : Linear) → Stand kept rows → Among r rows → (IsIdle r → ⊥) → IsDominated kept r
dominating kept rows r stand among not_idle = elim (stand.left_out r among) [ inl idle ↦ absurd (not_idle idle) | inr d ↦ d ]

kept_on : (x : ℕ) (kept rows : List Linear) (r : Linear) → Stand kept rows → Among r rows → is_zero (factor_of x r) ≡ true → IsIdle r ⊎ IsDominated (next x kept) r
kept_on x kept rows r stand among free = elim (stand.left_out r among) [
  | inl idle ↦ inl idle
  | inr d ↦ inr (record { by = d.by; among = next_kept x d.by kept d.among (sym (free_same x d.by r d.dominates) ∙ free); dominates = d.dominates })
]

combined_on : (x : ℕ) (kept rows : List Linear) (r : Linear) → Stand kept rows → IsCombination x r rows → IsDominated (next x kept) r
combined_on x kept rows r stand c =
    let u = dominating kept rows c.upper stand c.upper_among (upper_not_idle x c.upper c.bounds_above) in
    let l = dominating kept rows c.lower stand c.lower_among (lower_not_idle x c.lower c.bounds_below) in
    record {
      by = tightened (least x u.by l.by);
      among = next_combined x u.by l.by kept u.among (sym (upper_same x u.by c.upper u.dominates) ∙ c.bounds_above) l.among (sym (lower_same x l.by c.lower l.dominates) ∙ c.bounds_below);
      dominates = subst (Dominates (tightened (least x u.by l.by))) (sym c.is) (dominates_tightened (least x u.by l.by) (least x c.upper c.lower) (dominates_least x u.by l.by c.upper c.lower u.dominates l.dominates));
    }

-- the rows that are kept stand for all rows in the next stage too
pub stand_next : (x : ℕ) (kept rows : List Linear) → Stand kept rows → Stand (next x kept) (next x rows)
stand_next x kept rows stand = record {
  chosen = λ r h. elim (next_cases x r kept h) [
    | inl k ↦ next_kept x r rows (stand.chosen r k.0) k.1
    | inr c ↦ subst (λ (s : Linear). Among s (next x rows)) (sym c.is) (next_combined x c.upper c.lower rows (stand.chosen c.upper c.upper_among) c.bounds_above (stand.chosen c.lower c.lower_among) c.bounds_below)
  ];
  left_out = λ r h. elim (next_cases x r rows h) [
    | inl k ↦ kept_on x kept rows r stand k.0 k.1
    | inr c ↦ inr (combined_on x kept rows r stand c)
  ];
}

pub stand_eliminated : (xs : List ℕ) (kept rows : List Linear) → Stand kept rows → Stand (eliminated xs kept) (eliminated xs rows)
stand_eliminated [] kept rows stand = stand
stand_eliminated (x ∷ xs) kept rows stand = stand_eliminated xs (next x kept) (next x rows) (stand_next x kept rows stand)
