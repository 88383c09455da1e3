-- Variables that no row of a stage has.
use Prim.Native.Nat.{◌∣◌}
use Rattle.std.proofs.Common.{ℕ, zero, suc, ◌+◌, ◌*◌, ◌/◌, ◌<◌, ◌≤◌, ◌≡◌, Bool, true, false, List, [], ◌∷◌, ◌++◌, refl, sym, ◌∙◌, ap, subst, arith, inl, inr}
use Rattle.std.specs.Prelude.{◌⊎◌, ◌==◌, if◌then◌else◌, ℤ, pos, negsuc, ◌+ℤ◌, ◌*ℤ◌, ◌≤ℤ◌, ◌<ℤ◌, neg_ℤ}
use Rattle.std.proofs.lemmas.Int.{ints}
use Rattle.std.proofs.lemmas.Bool.{false≢true}
use Rattle.std.proofs.lemmas.Nat.Gcd.{mod-eq-zero_of_dvd, same_from_IsGcd, IsGcd-swap}
use Rattle.std.proofs.Math.IntN.{*ℤ-zero, +ℤ_idl}
use Rattle.carol_formula.specs.Linear.{Linear, IsNormal, AscendsFrom, NoneZero, is_zero, coefficient_of, times, normal_of}
use Rattle.carol_formula.specs.Division.{floor_of, EachDivides, quotients}
use Rattle.carol_formula.proofs.Integers.{mul-add}
use Rattle.carol_formula.proofs.Orders.{by_order, by_same}
use Rattle.carol_formula.proofs.Products.{coefficient_of-append, coefficient_of-times, coefficient_of-normal_of, coefficient_of-first}
use Rattle.carol_formula.proofs.Division.{mul-floor_of}
use Rattle.carol_elimination.specs.Tightened.{divisor, content, divided, tightened}
use Rattle.carol_elimination.specs.Stage.{Among, factor_of, is_positive, is_upper, is_lower, multiplier, least, next, with_variable, with_pairs, variables, first_stage, HasNoAbsurd}
use Rattle.carol_formula.specs.Value.{sum_at, value_at}
use Rattle.carol_elimination.specs.Values.{AreTrueRows}
use Rattle.carol_elimination.specs.Free.{IsFree, IsIn, Cover, Ascend}
use Rattle.carol_elimination.proofs.Divisors.{IsGcd-divisor}
use Rattle.carol_elimination.proofs.Standing.{next_cases}
use Rattle.carol_elimination.proofs.Truth.{each_divides}

-- ---- coefficients of a combination

pub factor_of-least : (v x : ℕ) (u l : Linear) → factor_of v (least x u l) ≡ (multiplier (factor_of x u) (factor_of x l) *ℤ factor_of v u) +ℤ (multiplier (factor_of x l) (factor_of x u) *ℤ factor_of v l)
factor_of-least v x u l =
    coefficient_of-normal_of v (first ++ second) ∙ coefficient_of-append v first second
    ∙ ap (λ (z : ℤ). z +ℤ coefficient_of v second) (coefficient_of-normal_of v (times m u.pairs) ∙ coefficient_of-times v m u.pairs)
    ∙ ap (λ (z : ℤ). (m *ℤ factor_of v u) +ℤ z) (coefficient_of-normal_of v (times n l.pairs) ∙ coefficient_of-times v n l.pairs)
  where
    m : ℤ
    m = multiplier (factor_of x u) (factor_of x l)

    n : ℤ
    n = multiplier (factor_of x l) (factor_of x u)

    first : List (ℕ × ℤ)
    first = normal_of (times m u.pairs)

    second : List (ℕ × ℤ)
    second = normal_of (times n l.pairs)

-- a variable that neither row has
free_least : (v x : ℕ) (u l : Linear) → factor_of v u ≡ pos 0 → factor_of v l ≡ pos 0 → factor_of v (least x u l) ≡ pos 0
free_least v x u l h g = factor_of-least v x u l ∙ ap (λ (z : ℤ). (multiplier (factor_of x u) (factor_of x l) *ℤ z) +ℤ (multiplier (factor_of x l) (factor_of x u) *ℤ factor_of v l)) h ∙ ap (λ (z : ℤ). (multiplier (factor_of x u) (factor_of x l) *ℤ pos 0) +ℤ (multiplier (factor_of x l) (factor_of x u) *ℤ z)) g ∙ none (multiplier (factor_of x u) (factor_of x l)) (multiplier (factor_of x l) (factor_of x u))
  where
    none : (m n : ℤ) → (m *ℤ pos 0) +ℤ (n *ℤ pos 0) ≡ pos 0
    none m n = omega (arith, ints)

-- the two coefficients cancel
crossed : (a b g : ℕ) → g ∣ a → g ∣ b → (b / g) * a ≡ (a / g) * b
crossed a b g h k =
    let first : g * (a / g) ≡ a = omega (arith, mod-eq-zero_of_dvd g h) in
    let second : g * (b / g) ≡ b = omega (arith, mod-eq-zero_of_dvd g k) in
    from (a / g) (b / g) first second
  where
    from : (p q : ℕ) → g * p ≡ a → g * q ≡ b → q * a ≡ p * b
    from p q e f = rw (sym e, sym f) (omega arith)

divisor_swap : (a b : ℕ) → divisor a b ≡ divisor b a
divisor_swap a b = same_from_IsGcd a b _ _ (IsGcd-divisor a b) (IsGcd-swap b a _ (IsGcd-divisor b a))

multiples_cancel : (c e : ℤ) → is_positive c ≡ true → is_positive (neg_ℤ e) ≡ true → (multiplier c e *ℤ c) +ℤ (multiplier e c *ℤ e) ≡ pos 0
multiples_cancel (pos zero) e h k = absurd (false≢true h)
multiples_cancel (negsuc a) e h k = absurd (false≢true h)
multiples_cancel (pos (suc a)) (pos zero) h k = absurd (false≢true k)
multiples_cancel (pos (suc a)) (pos (suc b)) h k = absurd (false≢true k)
multiples_cancel (pos (suc a)) (negsuc b) h k =
    let is = IsGcd-divisor (suc a) (suc b) in
    let same = crossed (suc a) (suc b) (divisor (suc a) (suc b)) is.0 is.1 in
    let other : suc a / divisor (suc b) (suc a) ≡ suc a / divisor (suc a) (suc b) = ap (λ (g : ℕ). suc a / g) (divisor_swap (suc b) (suc a)) in
    opposite (suc b / divisor (suc a) (suc b)) (suc a / divisor (suc b) (suc a)) (suc a) b (same ∙ ap (λ (n : ℕ). n * suc b) (sym other))
  where
    opposite : (q p a b : ℕ) → q * a ≡ p * suc b → (pos q *ℤ pos a) +ℤ (pos p *ℤ negsuc b) ≡ pos 0
    opposite q p a b e = omega (arith, ints)

pub cancelled : (x : ℕ) (u l : Linear) → is_upper x u ≡ true → is_lower x l ≡ true → factor_of x (least x u l) ≡ pos 0
cancelled x u l h k = factor_of-least x x u l ∙ multiples_cancel (factor_of x u) (factor_of x l) h k

-- ---- coefficients of a quotient

pub coefficient_of-quotients : (d v : ℕ) (ps : List (ℕ × ℤ)) → 0 < d → EachDivides d ps → pos d *ℤ coefficient_of v (quotients d ps) ≡ coefficient_of v ps
coefficient_of-quotients d v [] positive even = *ℤ-zero (pos d)
coefficient_of-quotients d v (p ∷ ps) positive even =
    mul-add (pos d) (if v == p.0 then floor_of p.1 d else pos 0) (coefficient_of v (quotients d ps))
    ∙ ap (λ (z : ℤ). z +ℤ (pos d *ℤ coefficient_of v (quotients d ps))) (shared (v == p.0))
    ∙ ap (λ (z : ℤ). (if v == p.0 then p.1 else pos 0) +ℤ z) (coefficient_of-quotients d v ps positive even.1)
  where
    shared : (b : Bool) → pos d *ℤ (if b then floor_of p.1 d else pos 0) ≡ (if b then p.1 else pos 0)
    shared true = mul-floor_of d p.1 positive even.0
    shared false = *ℤ-zero (pos d)

nothing_left : (d : ℕ) (c : ℤ) → pos (suc d) *ℤ c ≡ pos 0 → c ≡ pos 0
nothing_left d (pos zero) e = refl
nothing_left d (pos (suc n)) e = absurd (omega (arith, ints))
nothing_left d (negsuc n) e = absurd (omega (arith, ints))

free_divided : (d v : ℕ) (t : Linear) → d ≡ content t.pairs → factor_of v t ≡ pos 0 → factor_of v (divided d t) ≡ pos 0
free_divided zero v t e h = h
free_divided (suc d) v t e h = nothing_left d _ (coefficient_of-quotients (suc d) v t.pairs (omega arith) (subst (λ (n : ℕ). EachDivides n t.pairs) (sym e) (each_divides t.pairs)) ∙ h)

pub free_tightened : (v : ℕ) (t : Linear) → factor_of v t ≡ pos 0 → factor_of v (tightened t) ≡ pos 0
free_tightened v t h = free_divided (content t.pairs) v t refl h

-- ---- stages

pub free_next : (v x : ℕ) (rows : List Linear) → IsFree v rows → IsFree v (next x rows)
free_next v x rows free r among = elim (next_cases x r rows among) [
  | inl k ↦ free r k.0
  | inr c ↦ ap (factor_of v) c.is ∙ free_tightened v (least x c.upper c.lower) (free_least v x c.upper c.lower (free c.upper c.upper_among) (free c.lower c.lower_among))
]

zero_from : (z : ℤ) → is_zero z ≡ true → z ≡ pos 0
zero_from (pos zero) e = refl
zero_from (pos (suc n)) e = absurd (false≢true e)
zero_from (negsuc n) e = absurd (false≢true e)

pub free_after : (x : ℕ) (rows : List Linear) → IsFree x (next x rows)
free_after x rows r among = elim (next_cases x r rows among) [
  | inl k ↦ zero_from (factor_of x r) k.1
  | inr c ↦ ap (factor_of x) c.is ∙ free_tightened x (least x c.upper c.lower) (cancelled x c.upper c.lower c.bounds_above c.bounds_below)
]

pub cover_next : (x : ℕ) (xs : List ℕ) (rows : List Linear) → Cover (x ∷ xs) rows → Cover xs (next x rows)
cover_next x xs rows cover v = elim (cover v) [
  | inl free ↦ inl (free_next v x rows free)
  | inr i ↦ elim i [
    | inl same ↦ inl (subst (λ (w : ℕ). IsFree w (next x rows)) (sym same) (free_after x rows))
    | inr later ↦ inr later
  ]
]

-- the variables below the first one that is left are gone
pub below_free : (x : ℕ) (xs : List ℕ) (rows : List Linear) → Ascend x xs → Cover xs rows → (v : ℕ) → v < x → IsFree v rows
below_free x xs rows ascend cover v below = elim (cover v) [ inl free ↦ free | inr i ↦ absurd (not_in x xs ascend below i) ]
  where
    not_in : (low : ℕ) (ws : List ℕ) → Ascend low ws → v < low → IsIn v ws → ⊥
    not_in low [] a h i = i
    not_in low (w ∷ ws) a h i = elim i [
      | inl same ↦ absurd (omega (arith, same, a.0))
      | inr later ↦ not_in (w + 1) ws a.1 (omega (arith, a.0)) later
    ]

-- ---- all variables of a list

in_with_variable : (v w : ℕ) (vs : List ℕ) → v ≡ w → IsIn v (with_variable w vs)
in_with_variable v w [] e = inl e
in_with_variable v w (u ∷ us) e = by_order w u (λ a b. IsIn v (if a then (w ∷ u ∷ us) else if b then (u ∷ us) else (u ∷ with_variable w us)))
    (λ _. inl e)
    (λ same. inl (e ∙ same))
    (λ _. inr (in_with_variable v w us e))

in_kept : (v w : ℕ) (vs : List ℕ) → IsIn v vs → IsIn v (with_variable w vs)
in_kept v w [] i = absurd i
in_kept v w (u ∷ us) i = by_order w u (λ a b. IsIn v (if a then (w ∷ u ∷ us) else if b then (u ∷ us) else (u ∷ with_variable w us)))
    (λ _. inr i)
    (λ _. i)
    (λ _. elim i [ inl e ↦ inl e | inr k ↦ inr (in_kept v w us k) ])

in_with_pairs : (v : ℕ) (ps : List (ℕ × ℤ)) (vs : List ℕ) → IsIn v vs → IsIn v (with_pairs ps vs)
in_with_pairs v [] vs i = i
in_with_pairs v (p ∷ ps) vs i = in_kept v p.0 (with_pairs ps vs) (in_with_pairs v ps vs i)

absent_or_in : (v : ℕ) (ps : List (ℕ × ℤ)) (vs : List ℕ) → (coefficient_of v ps ≡ pos 0) ⊎ IsIn v (with_pairs ps vs)
absent_or_in v [] vs = inl refl
absent_or_in v (p ∷ ps) vs = by_same v p.0 (λ b. ((if b then p.1 else pos 0) +ℤ coefficient_of v ps ≡ pos 0) ⊎ IsIn v (with_variable p.0 (with_pairs ps vs)))
    (λ e. inr (in_with_variable v p.0 (with_pairs ps vs) e))
    (λ n. elim (absent_or_in v ps vs) [
      | inl none ↦ inl (+ℤ_idl (coefficient_of v ps) ∙ none)
      | inr i ↦ inr (in_kept v p.0 (with_pairs ps vs) i)
    ])

pub cover_first : (rows : List Linear) → Cover (variables rows) (first_stage rows)
cover_first [] v = inl (λ r h. absurd h)
cover_first (s ∷ rows) v = elim (absent_or_in v s.pairs (variables rows)) [
  | inr i ↦ inr i
  | inl none ↦ elim (cover_first rows v) [
    | inr i ↦ inr (in_with_pairs v s.pairs (variables rows) i)
    | inl free ↦ inl (λ r h. elim h [ inl e ↦ ap (factor_of v) e ∙ free_tightened v s none | inr k ↦ free r k ])
  ]
]

ascend_with_variable : (low w : ℕ) (vs : List ℕ) → low ≤ w → Ascend low vs → Ascend low (with_variable w vs)
ascend_with_variable low w [] h a = (h, tt)
ascend_with_variable low w (u ∷ us) h a = by_order w u (λ x y. Ascend low (if x then (w ∷ u ∷ us) else if y then (u ∷ us) else (u ∷ with_variable w us)))
    (λ l. (h, (omega (arith, l), a.1)))
    (λ _. a)
    (λ g. (a.0, ascend_with_variable (u + 1) w us (omega (arith, g)) a.1))

ascend_with_pairs : (ps : List (ℕ × ℤ)) (vs : List ℕ) → Ascend 0 vs → Ascend 0 (with_pairs ps vs)
ascend_with_pairs [] vs a = a
ascend_with_pairs (p ∷ ps) vs a = ascend_with_variable 0 p.0 (with_pairs ps vs) (omega arith) (ascend_with_pairs ps vs a)

pub variables_ascend : (rows : List Linear) → Ascend 0 (variables rows)
variables_ascend [] = tt
variables_ascend (r ∷ rows) = ascend_with_pairs r.pairs (variables rows) (variables_ascend rows)

-- ---- the last stage

no_pairs : (ps : List (ℕ × ℤ)) → AscendsFrom 0 ps → NoneZero ps → ((v : ℕ) → coefficient_of v ps ≡ pos 0) → ps ≡ []
no_pairs [] a n free = refl
no_pairs (p ∷ ps) a n free = absurd (n.0 (sym (coefficient_of-first p ps a.1) ∙ free p.0))

-- without variables and without an absurd row each row is true of any numbers
pub last_true : (rows : List Linear) (f : ℕ → ℤ) → Cover [] rows → ((r : Linear) → Among r rows → IsNormal r) → HasNoAbsurd rows → AreTrueRows f rows
last_true rows f cover normal none r among =
    let empty : r.pairs ≡ [] = no_pairs r.pairs (normal r among).ascends (normal r among).none_zero (λ v. elim (cover v) [ inl free ↦ free r among | inr i ↦ absurd i ]) in
    let value : value_at r f ≡ r.rest = ap (λ (ps : List (ℕ × ℤ)). sum_at ps f +ℤ r.rest) empty ∙ +ℤ_idl r.rest in
    elim (positive_or_not r.rest) [
      | inl above ↦ absurd (none r among (record { no_variable = empty; positive = above }))
      | inr below ↦ omega (arith, ints)
    ]
  where
    positive_or_not : (z : ℤ) → (pos 0 <ℤ z) ⊎ (z ≤ℤ pos 0)
    positive_or_not (pos zero) = inr (omega (arith, ints))
    positive_or_not (pos (suc n)) = inl (omega (arith, ints))
    positive_or_not (negsuc n) = inr (omega (arith, ints))
