-- The rows that elimination derives from those of the deposit's invariant are seven, all small.
use Rattle.std.proofs.Common.{◌≡◌, ◌≢◌, ℕ, zero, suc, ◌<◌, true, cond, eqb, inl, inr, List, [], ◌∷◌, ◌++◌, map, length, length-append, refl, sym, ap, subst, lit≤, arith}
use Rattle.std.specs.Prelude.{ℤ, pos, negsuc, ◌+ℤ◌, ◌≤ℤ◌, slice_index_or}
use Rattle.std.specs.List.{AllByRecursion}
use Rattle.std.proofs.lemmas.Int.{ints}
use Rattle.std.proofs.lemmas.List.{map-append}
use Rattle.carol_formula.specs.Bounds.{term_limit}
use Rattle.carol_formula.specs.Linear.{Linear, constant_of}
use Rattle.carol_formula.specs.Value.{FitsWithin, value_at, set_at}
use Rattle.carol_formula.proofs.Orders.{by_same}
use Rattle.carol_cert.specs.declared.step.RowStep.{RowStep}
use Rattle.carol_cert.specs.declared.step.RowStep.TheVariants as step
use Rattle.carol_elimination.specs.Choosing.{IsDerivedBy}
use Rattle.carol_elimination.specs.Choosing.{IsFar as IsFarRow}
use Rattle.carol_elimination.specs.Derived.{IsDeriving, IsLowest, IsPair, Derive, made, row_at}
use Rattle.carol_elimination.specs.Free.{IsIn}
use Rattle.carol_elimination.specs.Reasons.{IsNarrowPair, IsWidePair}
use Rattle.carol_elimination.specs.Stage.{factor_of, is_upper, is_lower, least, eliminated, variables, first_stage, next}
use Rattle.carol_elimination.specs.Tightened.{content, divided}
use Rattle.carol_elimination.specs.Values.{IsChosen, AreChosen}
use Rattle.carol_bank.proofs.Sums.{some, few, before, behind, absurd_row, rows}

-- the rows, and those that are made of them
pub data Name : Type 0 where
  Some : Name
  Few : Name
  Before : Name
  Behind : Name
  Sum : Name
  Gap : Name
  Absurd : Name

abbrev pub row_of : Name → Linear
row_of Some = some
row_of Few = few
row_of Before = before
row_of Behind = behind
row_of Sum = record { pairs = (192, pos 1) ∷ []; rest = pos 2 }
row_of Gap = record { pairs = []; rest = negsuc 998 }
row_of Absurd = absurd_row

abbrev pub IsOneOf : Linear → Type 0
IsOneOf r = (n : Name) × (r ≡ row_of n)

-- ---- the lowest variable of a row

abbrev one_pair : ℕ → ℤ → ℤ → Linear
one_pair v c rest = record { pairs = (v, c) ∷ []; rest = rest }

only_variable : (x v : ℕ) (c rest : ℤ) → factor_of x (one_pair v c rest) ≢ pos 0 → x ≡ v
only_variable x v c rest = by_same x v (λ b. ((cond b c (pos 0)) +ℤ pos 0 ≢ pos 0) → x ≡ v) (λ e h. e) (λ n h. absurd (h refl))

behind_lowest : (x : ℕ) → IsLowest x behind → x ≡ 32
behind_lowest x l = by_same x 32 (λ b. ((cond b (pos 1) (pos 0)) +ℤ ((cond (eqb x 192) (pos 1) (pos 0)) +ℤ pos 0) ≢ pos 0) → x ≡ 32) (λ e h. e) other l.stands
  where
    other : x ≢ 32 → ((pos 0) +ℤ ((cond (eqb x 192) (pos 1) (pos 0)) +ℤ pos 0) ≢ pos 0) → x ≡ 32
    other n = by_same x 192 (λ b. ((pos 0) +ℤ ((cond b (pos 1) (pos 0)) +ℤ pos 0) ≢ pos 0) → x ≡ 32) (λ e h. let f : factor_of 32 behind ≡ pos 0 = l.lowest 32 (omega arith) in absurd cc) (λ n h. absurd (h refl))

-- the variable that the row bounds above, and the one that it bounds below, where it is its lowest
abbrev IsUpperAt : Name → ℕ → Type 0
IsUpperAt Few x = x ≡ 32
IsUpperAt Behind x = x ≡ 32
IsUpperAt Sum x = x ≡ 192
IsUpperAt n x = ⊥

abbrev IsLowerAt : Name → ℕ → Type 0
IsLowerAt Some x = x ≡ 32
IsLowerAt Before x = x ≡ 192
IsLowerAt n x = ⊥

upper_at : (n : Name) (x : ℕ) → IsLowest x (row_of n) → is_upper x (row_of n) ≡ true → IsUpperAt n x
upper_at Some x l u = let e : x ≡ 32 = only_variable x 32 (negsuc 0) (pos 1) l.stands in let f : is_upper 32 some ≡ true = subst (λ z. is_upper z some ≡ true) e u in cc
upper_at Few x l u = only_variable x 32 (pos 1) (negsuc 999) l.stands
upper_at Before x l u = let e : x ≡ 192 = only_variable x 192 (negsuc 0) (pos 0) l.stands in let f : is_upper 192 before ≡ true = subst (λ z. is_upper z before ≡ true) e u in cc
upper_at Behind x l u = behind_lowest x l
upper_at Sum x l u = only_variable x 192 (pos 1) (pos 2) l.stands
upper_at Gap x l u = l.stands refl
upper_at Absurd x l u = l.stands refl

lower_at : (n : Name) (x : ℕ) → IsLowest x (row_of n) → is_lower x (row_of n) ≡ true → IsLowerAt n x
lower_at Some x l u = only_variable x 32 (negsuc 0) (pos 1) l.stands
lower_at Few x l u = let e : x ≡ 32 = only_variable x 32 (pos 1) (negsuc 999) l.stands in let f : is_lower 32 few ≡ true = subst (λ z. is_lower z few ≡ true) e u in cc
lower_at Before x l u = only_variable x 192 (negsuc 0) (pos 0) l.stands
lower_at Behind x l u = let e : x ≡ 32 = behind_lowest x l in let f : is_lower 32 behind ≡ true = subst (λ z. is_lower z behind ≡ true) e u in cc
lower_at Sum x l u = let e : x ≡ 192 = only_variable x 192 (pos 1) (pos 2) l.stands in let f : is_lower 192 (row_of Sum) ≡ true = subst (λ z. is_lower z (row_of Sum) ≡ true) e u in cc
lower_at Gap x l u = l.stands refl
lower_at Absurd x l u = l.stands refl

-- ---- two rows

-- the least combination of two rows is narrow, and one of the rows
pub record IsTame (x : ℕ) (u l : Linear) : Type 0 where
  pub narrow : IsNarrowPair x u l
  pub sum : IsOneOf (least x u l)

tame_few : IsTame 32 few some
tame_few = record { narrow = record { first = record { coefficients = (lit≤ tt, tt); constant = lit≤ tt }; second = record { coefficients = (lit≤ tt, tt); constant = lit≤ tt }; sum = record { coefficients = tt; constant = lit≤ tt } }; sum = (Gap, refl) }

tame_behind : IsTame 32 behind some
tame_behind = record { narrow = record { first = record { coefficients = (lit≤ tt, (lit≤ tt, tt)); constant = lit≤ tt }; second = record { coefficients = (lit≤ tt, tt); constant = lit≤ tt }; sum = record { coefficients = (lit≤ tt, tt); constant = lit≤ tt } }; sum = (Sum, refl) }

tame_sum : IsTame 192 (row_of Sum) before
tame_sum = record { narrow = record { first = record { coefficients = (lit≤ tt, tt); constant = lit≤ tt }; second = record { coefficients = (lit≤ tt, tt); constant = lit≤ tt }; sum = record { coefficients = tt; constant = lit≤ tt } }; sum = (Absurd, refl) }

differ : (x : ℕ) → x ≡ 32 → x ≡ 192 → ⊥
differ x e f = omega arith

tame : (m n : Name) (x : ℕ) → IsUpperAt m x → IsLowerAt n x → IsTame x (row_of m) (row_of n)
tame Few Some x e f = subst (λ z. IsTame z few some) (sym e) tame_few
tame Behind Some x e f = subst (λ z. IsTame z behind some) (sym e) tame_behind
tame Sum Before x e f = subst (λ z. IsTame z (row_of Sum) before) (sym e) tame_sum
tame Few Before x e f = absurd (differ x e f)
tame Behind Before x e f = absurd (differ x e f)
tame Sum Some x e f = absurd (differ x f e)
tame Some n x e f = absurd e
tame Before n x e f = absurd e
tame Gap n x e f = absurd e
tame Absurd n x e f = absurd e
tame m Few x e f = absurd f
tame m Behind x e f = absurd f
tame m Sum x e f = absurd f
tame m Gap x e f = absurd f
tame m Absurd x e f = absurd f

tame_pair : (x : ℕ) (u l : Linear) → IsOneOf u → IsOneOf l → IsPair x u l → IsTame x u l
tame_pair x u l (m, e) (n, f) p =
    subst (λ z. IsTame x z l) (sym e) (subst (λ z. IsTame x (row_of m) z) (sym f)
    (tame m n x (upper_at m x (subst (IsLowest x) e p.first) (subst (λ z. is_upper x z ≡ true) e p.upper))
    (lower_at n x (subst (IsLowest x) f p.second) (subst (λ z. is_lower x z ≡ true) f p.lower))))

-- ---- steps

all_at : {A : Type 0} (P : A → Type 0) (xs : List A) (i : ℕ) (d : A) → AllByRecursion P xs → i < length xs → P (slice_index_or xs i d)
all_at P [] i d h l = absurd (omega arith)
all_at P (x ∷ xs) zero d h l = h.0
all_at P (x ∷ xs) (suc i) d h l = all_at P xs i d h.1 (omega arith)

all_append : {A : Type 0} (P : A → Type 0) (xs ys : List A) → AllByRecursion P xs → AllByRecursion P ys → AllByRecursion P (xs ++ ys)
all_append P [] ys h k = k
all_append P (x ∷ xs) ys h k = (h.0, all_append P xs ys h.1 k)

given_rows : AllByRecursion IsOneOf rows
given_rows = ((Behind, refl), ((Before, refl), ((Some, refl), ((Few, refl), tt))))

whole : (n : Name) → content (row_of n).pairs ≢ 0 → IsOneOf (divided (content (row_of n).pairs) (row_of n))
whole Some h = (Some, refl)
whole Few h = (Few, refl)
whole Before h = (Before, refl)
whole Behind h = (Behind, refl)
whole Sum h = (Sum, refl)
whole Gap h = absurd (h refl)
whole Absurd h = absurd (h refl)

whole_row : (r : Linear) → IsOneOf r → content r.pairs ≢ 0 → IsOneOf (divided (content r.pairs) r)
whole_row r (n, e) h = subst (λ z. IsOneOf (divided (content z.pairs) z)) (sym e) (whole n (subst (λ z. content z.pairs ≢ 0) e h))

made_one : (so_far : List Linear) (s : RowStep) → AllByRecursion IsOneOf so_far → IsDeriving rows so_far s → IsOneOf (made rows so_far s)
made_one so_far (step.Given at) h d = all_at IsOneOf rows at (constant_of (pos 0)) given_rows d
made_one so_far (step.Reversed at) h d = absurd d
made_one so_far (step.Combine a m b n) h d =
    let u = all_at IsOneOf so_far a (constant_of (pos 0)) h d.0 in
    let l = all_at IsOneOf so_far b (constant_of (pos 0)) h d.1 in
    let t = tame_pair d.2.variable (row_at so_far a) (row_at so_far b) u l d.2.pair in
    rw (d.2.first, d.2.second) t.sum
made_one so_far (step.Tighten a k) h d =
    let u = all_at IsOneOf so_far a (constant_of (pos 0)) h d.0 in
    rw d.1 (whole_row (row_at so_far a) u d.2)

all_made : (so_far more : List (RowStep × Linear)) → AllByRecursion IsOneOf (map (λ e. e.1) so_far) → Derive rows so_far more → AllByRecursion IsOneOf (map (λ e. e.1) more)
all_made so_far [] h d = tt
all_made so_far (e ∷ more) h d =
    let one : IsOneOf e.1 = subst IsOneOf (sym d.1) (made_one (map (λ e. e.1) so_far) e.0 h d.0) in
    let longer : AllByRecursion IsOneOf (map (λ e. e.1) (so_far ++ e ∷ [])) =
    subst (AllByRecursion IsOneOf) (sym (map-append (λ (e : RowStep × Linear). e.1) so_far (e ∷ []))) (all_append IsOneOf (map (λ e. e.1) so_far) (e.1 ∷ []) h (one, tt)) in
    (one, all_made (so_far ++ e ∷ []) more longer d.2)

all_last : {A : Type 0} (P : A → Type 0) (xs : List A) (y : A) → AllByRecursion P (xs ++ y ∷ []) → P y
all_last P [] y h = h.0
all_last P (x ∷ xs) y h = all_last P xs y h.1

derived_one : (steps : List RowStep) (row : Linear) → IsDerivedBy rows steps row → IsOneOf row
derived_one steps row d =
    let all = all_made [] (d.before ++ (d.step, row) ∷ []) tt d.derived in
    all_last IsOneOf (map (λ e. e.1) d.before) row (subst (AllByRecursion IsOneOf) (map-append (λ (e : RowStep × Linear). e.1) d.before ((d.step, row) ∷ [])) all)

-- ---- the reasons

pub never_wide : (x : ℕ) (us ls : List RowStep) (u l : Linear) → IsDerivedBy rows us u → IsDerivedBy rows ls l → IsWidePair x u l → ⊥
never_wide x us ls u l d e w = w.wide (tame_pair x u l (derived_one us u d) (derived_one ls l e) w.pair).narrow

-- the rows behind the first variable allow no number of the second
no_number : (f : ℕ → ℤ) → IsChosen 192 (next 32 (first_stage rows)) f → ⊥
no_number f c =
    let low : value_at before (set_at 192 (f 192) f) ≤ℤ pos 0 = c.allowed before (inl refl) (λ e. cc) in
    let high : value_at (row_of Sum) (set_at 192 (f 192) f) ≤ℤ pos 0 = c.allowed (row_of Sum) (inr (inl refl)) (λ e. cc) in
    omega (arith, ints)

none_chosen : (f : ℕ → ℤ) (front back : List ℕ) → front ++ back ≡ variables rows → AreChosen back (eliminated front (first_stage rows)) f → back ≡ []
none_chosen f front [] e c = refl
none_chosen f [] (b ∷ back) e c =
    let all : AreChosen (32 ∷ 192 ∷ []) (first_stage rows) f = subst (λ z. AreChosen z (first_stage rows) f) e c in absurd (no_number f all.1.0)
none_chosen f (x ∷ []) (b ∷ back) e c =
    let first : x ≡ 32 = cc in
    let rest : b ∷ back ≡ 192 ∷ [] = cc in
    let one : AreChosen (192 ∷ []) (next 32 (first_stage rows)) f = subst (λ z. AreChosen z (next 32 (first_stage rows)) f) rest (subst (λ z. AreChosen (b ∷ back) (next z (first_stage rows)) f) first c) in
    absurd (no_number f one.0)
none_chosen f (x ∷ y ∷ front) (b ∷ back) e c =
    let n : length (x ∷ y ∷ (front ++ b ∷ back)) ≡ length (variables rows) = ap length e in
    absurd (omega (arith, n, length-append front (b ∷ back)))

zero_fits : (n : Name) (f : ℕ → ℤ) → f 32 ≡ pos 0 → f 192 ≡ pos 0 → FitsWithin term_limit (row_of n) f
zero_fits Some f e g = rw e (lit≤ tt, lit≤ tt, lit≤ tt)
zero_fits Few f e g = rw e (lit≤ tt, lit≤ tt, lit≤ tt)
zero_fits Before f e g = rw g (lit≤ tt, lit≤ tt, lit≤ tt)
zero_fits Behind f e g = rw (e, g) (lit≤ tt, lit≤ tt, (lit≤ tt, lit≤ tt, lit≤ tt))
zero_fits Sum f e g = rw g (lit≤ tt, lit≤ tt, lit≤ tt)
zero_fits Gap f e g = lit≤ tt
zero_fits Absurd f e g = lit≤ tt

pub never_far : (steps : List RowStep) (row : Linear) (f : ℕ → ℤ) → IsFarRow rows steps row f → ⊥
never_far steps row f h =
    let one = derived_one steps row h.derived in
    let last = h.numbers.last in
    let none : last.after ≡ [] = none_chosen f last.before last.after last.split last.chosen in
    let zero : (v : ℕ) → f v ≡ pos 0 = λ v. elim (h.numbers.others v) [ inl i ↦ absurd (subst (IsIn v) none i) | inr e ↦ e ] in
    h.far (subst (λ z. FitsWithin term_limit z f) (sym one.1) (zero_fits one.0 f (zero 32) (zero 192)))
