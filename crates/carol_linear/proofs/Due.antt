-- A branch that is due for rows that stand for all is due for all.
use Rattle.std.proofs.Common.{ℕ, ◌≡◌, ◌+◌, ◌≤◌, ◌/◌, Bool, true, false, List, [], ◌∷◌, refl, sym, ◌∙◌, ap, subst, arith, inl, inr}
use Rattle.std.specs.Prelude.{◌⊎◌, ◌==◌, if◌then◌else◌, MatchBool, ℤ, pos, ◌+ℤ◌, ◌*ℤ◌, ◌≤ℤ◌, negsuc, unsigned_abs}
use Rattle.std.proofs.lemmas.Int.{ints}
use Rattle.std.proofs.lemmas.Bool.{false≢true}
use Rattle.std.proofs.Math.Nat.{mul-le-mul_left}
use Rattle.carol_formula.specs.Linear.{Linear, coefficient_of}
use Rattle.carol_formula.specs.Value.{sum_at, value_at}
use Rattle.carol_formula.proofs.Orders.{by_order}
use Rattle.carol_formula.proofs.Sums.{value_at-sum_of, value_at-scaled}
use Rattle.carol_elimination.specs.Tightened.{divisor, content, divided, tightened}
use Rattle.carol_elimination.specs.Stage.{Among, factor_of, is_positive, is_upper, multiplier, upper_part, lower_part, least, next, eliminated, with_variable, with_pairs, variables, first_stage, HasNoAbsurd}
use Rattle.carol_elimination.specs.Values.{IsTrueRow, AreChosen}
use Rattle.carol_elimination.specs.Due.{HasNoWhole, IsFloor, IsStuck, IsDueFor}
use Rattle.carol_elimination.specs.Stands.{IsIdle, Dominates, IsDominated, Stand}
use Rattle.carol_elimination.specs.Free.{IsIn, Ascend}
use Rattle.carol_elimination.proofs.Rows.{among_map, map_among}
use Rattle.carol_elimination.proofs.Standing.{dominates_tightened, upper_same, lower_same, lower_not_idle, dominating, stand_next, stand_eliminated}
use Rattle.carol_elimination.proofs.Kept.{no_absurd_from, chosen_from, no_whole_from, floor_from}
use Rattle.carol_elimination.proofs.Free.{variables_ascend}

-- ---- the variables

-- the products have the variable
abbrev HasVariable : ℕ → List (ℕ × ℤ) → Type 0
HasVariable v [] = ⊥
HasVariable v (p ∷ ps) = (v ≡ p.0) ⊎ HasVariable v ps

in_with_variable : (v w : ℕ) (vs : List ℕ) → (v ≡ w) ⊎ IsIn v vs → IsIn v (with_variable w vs)
in_with_variable v w [] h = h
in_with_variable v w (u ∷ us) h = by_order w u (λ a b. IsIn v (if a then (w ∷ u ∷ us) else if b then (u ∷ us) else (u ∷ with_variable w us)))
    (λ _. h)
    (λ same. elim h [ inl e ↦ inl (e ∙ same) | inr i ↦ i ])
    (λ _. elim h [
      | inl e ↦ inr (in_with_variable v w us (inl e))
      | inr i ↦ elim i [ inl e ↦ inl e | inr k ↦ inr (in_with_variable v w us (inr k)) ]
    ])

with_variable_in : (v w : ℕ) (vs : List ℕ) → IsIn v (with_variable w vs) → (v ≡ w) ⊎ IsIn v vs
with_variable_in v w [] h = h
with_variable_in v w (u ∷ us) h = by_order w u (λ a b. IsIn v (if a then (w ∷ u ∷ us) else if b then (u ∷ us) else (u ∷ with_variable w us)) → (v ≡ w) ⊎ IsIn v (u ∷ us))
    (λ _ i. i)
    (λ _ i. inr i)
    (λ _ i. elim i [
      | inl e ↦ inr (inl e)
      | inr k ↦ elim (with_variable_in v w us k) [ inl e ↦ inl e | inr m ↦ inr (inr m) ]
    ])
    h

in_with_pairs : (v : ℕ) (ps : List (ℕ × ℤ)) (vs : List ℕ) → HasVariable v ps ⊎ IsIn v vs → IsIn v (with_pairs ps vs)
in_with_pairs v [] vs h = elim h [ inl none ↦ absurd none | inr i ↦ i ]
in_with_pairs v (p ∷ ps) vs h = in_with_variable v p.0 (with_pairs ps vs) (elim h [
  | inl has ↦ elim has [ inl e ↦ inl e | inr later ↦ inr (in_with_pairs v ps vs (inl later)) ]
  | inr i ↦ inr (in_with_pairs v ps vs (inr i))
])

with_pairs_in : (v : ℕ) (ps : List (ℕ × ℤ)) (vs : List ℕ) → IsIn v (with_pairs ps vs) → HasVariable v ps ⊎ IsIn v vs
with_pairs_in v [] vs h = inr h
with_pairs_in v (p ∷ ps) vs h = elim (with_variable_in v p.0 (with_pairs ps vs) h) [
  | inl e ↦ inl (inl e)
  | inr k ↦ elim (with_pairs_in v ps vs k) [ inl later ↦ inl (inr later) | inr i ↦ inr i ]
]

in_variables : (v : ℕ) (r : Linear) (rows : List Linear) → Among r rows → HasVariable v r.pairs → IsIn v (variables rows)
in_variables v r [] among has = among
in_variables v r (s ∷ rows) among has = in_with_pairs v s.pairs (variables rows) (elim among [
  | inl e ↦ inl (subst (λ (t : Linear). HasVariable v t.pairs) e has)
  | inr later ↦ inr (in_variables v r rows later has)
])

record IsOf (v : ℕ) (rows : List Linear) : Type 0 where
  row : Linear
  among : Among row rows
  has : HasVariable v row.pairs

variables_in : (v : ℕ) (rows : List Linear) → IsIn v (variables rows) → IsOf v rows
variables_in v [] h = absurd h
variables_in v (s ∷ rows) h = elim (with_pairs_in v s.pairs (variables rows) h) [
  | inl has ↦ record { row = s; among = inl refl; has = has }
  | inr later ↦ let of = variables_in v rows later in record { row = of.row; among = inr of.among; has = of.has }
]

in_from : (low v : ℕ) (vs : List ℕ) → Ascend low vs → IsIn v vs → low ≤ v
in_from low v [] a i = absurd i
in_from low v (w ∷ ws) a i = elim i [
  | inl e ↦ omega (arith, a.0, e)
  | inr k ↦ let above = in_from (w + 1) v ws a.1 k in omega (arith, a.0, above)
]

in_rest : (v w : ℕ) (ws : List ℕ) → w + 1 ≤ v → IsIn v (w ∷ ws) → IsIn v ws
in_rest v w ws above i = elim i [ inl e ↦ absurd (omega (arith, above, e)) | inr k ↦ k ]

-- ascending lists of the same numbers are equal
ascend_same : (low low' : ℕ) (vs ws : List ℕ) → Ascend low vs → Ascend low' ws → ((v : ℕ) → IsIn v vs → IsIn v ws) → ((v : ℕ) → IsIn v ws → IsIn v vs) → vs ≡ ws
ascend_same low low' [] [] a b to from = refl
ascend_same low low' [] (w ∷ ws) a b to from = absurd (from w (inl refl))
ascend_same low low' (v ∷ vs) [] a b to from = absurd (to v (inl refl))
ascend_same low low' (v ∷ vs) (w ∷ ws) a b to from =
    let above = in_from w v (w ∷ ws) (omega arith, b.1) (to v (inl refl)) in
    let below = in_from v w (v ∷ vs) (omega arith, a.1) (from w (inl refl)) in
    let same : v ≡ w = omega (arith, above, below) in
    ap (λ (u : ℕ). u ∷ vs) same ∙ ap (λ (us : List ℕ). w ∷ us) (ascend_same (v + 1) (w + 1) vs ws a.1 b.1
    (λ u i. in_rest u w ws (omega (arith, same, in_from (v + 1) u vs a.1 i)) (to u (inr i)))
    (λ u i. in_rest u v vs (omega (arith, same, in_from (w + 1) u ws b.1 i)) (from u (inr i))))

pub variables_same : (kept rows : List Linear) → Stand kept rows → variables kept ≡ variables rows
variables_same kept rows stand = ascend_same 0 0 (variables kept) (variables rows) (variables_ascend kept) (variables_ascend rows)
    (λ v i. let of = variables_in v kept i in in_variables v of.row rows (stand.chosen of.row of.among) of.has)
    (λ v i.
    let of = variables_in v rows i in
    elim (stand.left_out of.row of.among) [
      | inl idle ↦ absurd (subst (HasVariable v) idle.no_variable of.has)
      | inr d ↦ in_variables v d.by kept d.among (subst (HasVariable v) d.dominates.same of.has)
    ])

-- ---- the first stage

idle_tightened : (r : Linear) → IsIdle r → IsIdle (tightened r)
idle_tightened r idle = subst IsIdle (sym (ap (λ (ps : List (ℕ × ℤ)). divided (content ps) r) idle.no_variable)) idle

stand_first : (kept rows : List Linear) → Stand kept rows → Stand (first_stage kept) (first_stage rows)
stand_first kept rows stand = record {
  chosen = λ r h.
      let i = map_among tightened r kept h in
      subst (λ (s : Linear). Among s (first_stage rows)) (sym i.is) (among_map tightened i.of rows (stand.chosen i.of i.among));
  left_out = λ r h.
      let i = map_among tightened r rows h in
      subst (λ (s : Linear). IsIdle s ⊎ IsDominated (first_stage kept) s) (sym i.is) (elim (stand.left_out i.of i.among) [
        | inl idle ↦ inl (idle_tightened i.of idle)
        | inr d ↦ inr (record { by = tightened d.by; among = among_map tightened d.by kept d.among; dominates = dominates_tightened d.by i.of d.dominates })
      ]);
}

-- ---- combinations

value_at-least : (x : ℕ) (u l : Linear) (f : ℕ → ℤ) → value_at (least x u l) f ≡ (multiplier (factor_of x u) (factor_of x l) *ℤ value_at u f) +ℤ (multiplier (factor_of x l) (factor_of x u) *ℤ value_at l f)
value_at-least x u l f =
    let first = value_at-scaled (multiplier (factor_of x u) (factor_of x l)) u f in
    let second = value_at-scaled (multiplier (factor_of x l) (factor_of x u)) l f in
    let sum = value_at-sum_of (upper_part x u l) (lower_part x u l) f in
    omega (arith, ints, sum, first, second)

dominated_value : (k r : Linear) (f : ℕ → ℤ) → Dominates k r → value_at r f ≤ℤ value_at k f
dominated_value k r f h =
    let same = ap (λ (ps : List (ℕ × ℤ)). sum_at ps f) h.same in
    let tighter = h.tighter in
    omega (arith, ints, same, tighter)

pos-mul-le : (m : ℕ) (y z : ℤ) → y ≤ℤ z → (pos m *ℤ y) ≤ℤ (pos m *ℤ z)
pos-mul-le m (pos a) (pos b) h = let le = mul-le-mul_left {m = a} {n = b} m (omega (arith, ints)) in omega (arith, ints)
pos-mul-le m (pos a) (negsuc b) h = absurd (omega (arith, ints))
pos-mul-le m (negsuc a) (pos b) h = omega (arith, ints)
pos-mul-le m (negsuc a) (negsuc b) h = let le = mul-le-mul_left {m = b} {n = a} m (omega (arith, ints)) in omega (arith, ints)

-- a combination of looser rows is true where that of tighter ones is
looser_true : (x : ℕ) (u l u' l' : Linear) (f : ℕ → ℤ) → Dominates u' u → Dominates l' l → IsTrueRow f (least x u' l') → IsTrueRow f (least x u l)
looser_true x u l u' l' f du dl holds =
    let m = unsigned_abs (factor_of x l) / divisor (unsigned_abs (factor_of x u)) (unsigned_abs (factor_of x l)) in
    let n = unsigned_abs (factor_of x u) / divisor (unsigned_abs (factor_of x l)) (unsigned_abs (factor_of x u)) in
    let fu : factor_of x u ≡ factor_of x u' = ap (coefficient_of x) du.same in
    let fl : factor_of x l ≡ factor_of x l' = ap (coefficient_of x) dl.same in
    let first : multiplier (factor_of x u) (factor_of x l) ≡ multiplier (factor_of x u') (factor_of x l') = ap (λ (z : ℤ). multiplier z (factor_of x l)) fu ∙ ap (multiplier (factor_of x u')) fl in
    let second : multiplier (factor_of x l) (factor_of x u) ≡ multiplier (factor_of x l') (factor_of x u') = ap (λ (z : ℤ). multiplier z (factor_of x u)) fl ∙ ap (multiplier (factor_of x l')) fu in
    let tight : ((pos m *ℤ value_at u' f) +ℤ (pos n *ℤ value_at l' f)) ≤ℤ pos 0 = subst (λ (z : ℤ). z ≤ℤ pos 0) (value_at-least x u' l' f ∙ ap (λ (z : ℤ). (z *ℤ value_at u' f) +ℤ (multiplier (factor_of x l') (factor_of x u') *ℤ value_at l' f)) (sym first) ∙ ap (λ (z : ℤ). (multiplier (factor_of x u) (factor_of x l) *ℤ value_at u' f) +ℤ (z *ℤ value_at l' f)) (sym second)) holds in
    let up = pos-mul-le m (value_at u f) (value_at u' f) (dominated_value u' u f du) in
    let low = pos-mul-le n (value_at l f) (value_at l' f) (dominated_value l' l f dl) in
    let value = value_at-least x u l f in
    omega (arith, ints, tight, up, low, value)

-- ---- stages

upper_not_idle : (x : ℕ) (r : Linear) → is_upper x r ≡ true → IsIdle r → ⊥
upper_not_idle x r h idle = false≢true (sym (ap (λ (ps : List (ℕ × ℤ)). is_positive (coefficient_of x ps)) idle.no_variable) ∙ h)

no_whole_on : (x : ℕ) (kept rows : List Linear) (f : ℕ → ℤ) → Stand kept rows → HasNoWhole x kept f → HasNoWhole x rows f
no_whole_on x kept rows f stand h = record {
  fraction = λ u l hu tu hl tl.
      let du = dominating kept rows u stand hu (upper_not_idle x u tu) in
      let dl = dominating kept rows l stand hl (lower_not_idle x l tl) in
      looser_true x u l du.by dl.by f du.dominates dl.dominates (h.fraction du.by dl.by du.among (sym (upper_same x du.by u du.dominates) ∙ tu) dl.among (sym (lower_same x dl.by l dl.dominates) ∙ tl));
  no_whole = no_whole_from x kept rows f stand h.no_whole;
}

chosen_on : (vs : List ℕ) (kept rows : List Linear) (f : ℕ → ℤ) → Stand kept rows → AreChosen vs kept f → AreChosen vs rows f
chosen_on [] kept rows f stand h = tt
chosen_on (v ∷ vs) kept rows f stand h = (chosen_from v kept rows f stand h.0, chosen_on vs (next v kept) (next v rows) f (stand_next v kept rows stand) h.1)

either_on : (b : Bool) (P Q P' Q' : Type 0) → (P → P') → (Q → Q') → MatchBool b P Q → MatchBool b P' Q'
either_on true P Q P' Q' f g h = f h
either_on false P Q P' Q' f g h = g h

stuck_on : (x : ℕ) (k : ℤ) (f : ℕ → ℤ) (vs : List ℕ) (kept rows : List Linear) → Stand kept rows → IsStuck x k f vs kept → IsStuck x k f vs rows
stuck_on x k f [] kept rows stand h = h
stuck_on x k f (v ∷ vs) kept rows stand h =
    either_on (x == v) (HasNoWhole x kept f × IsFloor x kept f k × AreChosen vs (next x kept) f) (IsStuck x k f vs (next v kept)) (HasNoWhole x rows f × IsFloor x rows f k × AreChosen vs (next x rows) f) (IsStuck x k f vs (next v rows))
    (λ s. (no_whole_on x kept rows f stand s.0, floor_from x kept rows f k stand s.1, chosen_on vs (next x kept) (next x rows) f (stand_next x kept rows stand) s.2))
    (λ s. stuck_on x k f vs (next v kept) (next v rows) (stand_next v kept rows stand) s)
    h

pub due_on : (kept rows : List Linear) (x : ℕ) (k : ℤ) → Stand kept rows → IsDueFor kept x k → IsDueFor rows x k
due_on kept rows x k stand h =
    let same = variables_same kept rows stand in
    let first = stand_first kept rows stand in
    record {
      quiet = no_absurd_from (eliminated (variables rows) (first_stage kept)) (eliminated (variables rows) (first_stage rows)) (stand_eliminated (variables rows) (first_stage kept) (first_stage rows) first) (subst (λ (vs : List ℕ). HasNoAbsurd (eliminated vs (first_stage kept))) same h.quiet);
      numbers = h.numbers;
      stuck = stuck_on x k h.numbers (variables rows) (first_stage kept) (first_stage rows) first (subst (λ (vs : List ℕ). IsStuck x k h.numbers vs (first_stage kept)) same h.stuck);
    }
