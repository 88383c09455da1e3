-- Derived rows are the rows that their steps make of the claims, and an absurd one closes these.
use Rattle.std.proofs.Common.{ℕ, zero, suc, ◌+◌, ◌*◌, ◌%◌, ◌<◌, ◌≡◌, ◌≢◌, List, [], ◌∷◌, ◌++◌, map, length, append-nil, append_assoc, refl, sym, ◌∙◌, ap, subst, arith}
use Rattle.std.specs.Prelude.{if◌then◌else◌, Option, Some, slice_get, ℤ, pos, negsuc, ◌+ℤ◌, ◌*ℤ◌, ◌≤ℤ◌, ◌<ℤ◌, unsigned_abs}
use Rattle.std.specs.Option.{option_map}
use mathlib.Core.Path.{fun_ext}
use Rattle.std.proofs.lemmas.Int.{ints, unsigned_abs-mul}
use Rattle.std.proofs.lemmas.Option.{slice_get-map, slice_get-get_or}
use Rattle.std.proofs.Math.ListN.{get_or-map}
use Rattle.std.proofs.lemmas.List.{length-map}
use Rattle.std.proofs.lemmas.Nat.Gcd.{mod-eq-zero_of_dvd}
use Rattle.std.proofs.Math.Nat.{dvd-mul_right, mul-div_cancel_left, div-eq_of_lt-le}
use Rattle.std.proofs.Math.IntN.{+ℤ_idl, +ℤ_idr}
use Rattle.carol_formula.proofs.Orders.{by_same}
use Rattle.carol_formula.specs.Bounds.{IsBelow, term_limit, value_limit}
use Rattle.carol_formula.specs.Linear.{Linear, IsWithin, AllBelow, AscendsFrom, constant_of, coefficient_of, times, normal_of, scaled, sum_of}
use Rattle.carol_formula.specs.Division.{floor_of, quotients, Divides, EachDivides}
use Rattle.carol_formula.specs.Claim.{Claim, Le}
use Rattle.carol_formula.proofs.Products.{coefficient_of-append, coefficient_of-times, coefficient_of-normal_of, AllFrom-zero, AscendsFrom-normal_of, coefficient_of-absent, AllFrom-ascends}
use Rattle.carol_cert.specs.PlainRow.{PlainRow, row_of, multiple, sum_of_rows, quotient, IsSmall, IsAbsurd, last_row}
use Rattle.carol_cert.specs.declared.step.RowStep.{RowStep}
use Rattle.carol_cert.specs.declared.step.RowStep.TheVariants.{Given, Reversed, Combine, Tighten}
use Rattle.carol_cert.specs.Steps as steps
use Rattle.carol_cert.specs.Steps.{IsRow, term_of, IsAllowed, rows_made, AreAllowed, Closes, CanCombine, CanTighten}
use Rattle.carol_elimination.specs.Tightened.{content, divided}
use Rattle.carol_elimination.specs.Stage.{IsAbsurdRow}
use Rattle.carol_elimination.specs.Derived.{row_at, made, IsLeastSum, IsDeriving, Derive, AreDerived}
use Rattle.carol_elimination.proofs.Truth.{each_divides}
use Rattle.carol_elimination.proofs.Free.{coefficient_of-quotients}

-- ---- a row of the code and the row as plain data

pub row_of-scaled : (m : ℤ) (t : Linear) → row_of (scaled m t) ≡ multiple m (row_of t)
row_of-scaled m t = ap (λ (c : ℕ → ℤ). record { coefficient = c; rest = m *ℤ t.rest }) (fun_ext (λ v. coefficient_of-normal_of v (times m t.pairs) ∙ coefficient_of-times v m t.pairs))

pub row_of-sum : (s t : Linear) → row_of (sum_of s t) ≡ sum_of_rows (row_of s) (row_of t)
row_of-sum s t = ap (λ (c : ℕ → ℤ). record { coefficient = c; rest = s.rest +ℤ t.rest }) (fun_ext (λ v. coefficient_of-normal_of v (s.pairs ++ t.pairs) ∙ coefficient_of-append v s.pairs t.pairs))

-- a multiple of d divided by d
floor_of-multiple : (d : ℕ) (y : ℤ) → floor_of (pos (suc d) *ℤ y) (suc d) ≡ y
floor_of-multiple d (pos n) = ap pos (mul-div_cancel_left n (omega arith))
floor_of-multiple d (negsuc n) = from (d + n + d * n) (omega (arith, ints))
  where
    from : (k : ℕ) → pos (suc d) *ℤ negsuc n ≡ negsuc k → floor_of (pos (suc d) *ℤ negsuc n) (suc d) ≡ negsuc n
    from k e = ap (λ (z : ℤ). floor_of z (suc d)) e ∙ ap negsuc (div-eq_of_lt-le (suc d) (omega (arith, ints)) (omega (arith, ints)))

divides-multiple : (d : ℕ) (y : ℤ) → Divides (suc d) (pos (suc d) *ℤ y)
divides-multiple d y = ap (λ (n : ℕ). n % suc d) (unsigned_abs-mul (pos (suc d)) y) ∙ mod-eq-zero_of_dvd (suc d) (dvd-mul_right (suc d) (unsigned_abs y))

coefficients_divide : (d : ℕ) (t : Linear) (v : ℕ) → suc d ≡ content t.pairs → pos (suc d) *ℤ coefficient_of v (quotients (suc d) t.pairs) ≡ coefficient_of v t.pairs
coefficients_divide d t v e = coefficient_of-quotients (suc d) v t.pairs (omega arith) (subst (λ (n : ℕ). EachDivides n t.pairs) (sym e) (each_divides t.pairs))

pub divides_row : (d : ℕ) (t : Linear) (v : ℕ) → suc d ≡ content t.pairs → Divides (suc d) ((row_of t).coefficient v)
divides_row d t v e = subst (λ (z : ℤ). Divides (suc d) z) (coefficients_divide d t v e) (divides-multiple d (coefficient_of v (quotients (suc d) t.pairs)))

pub row_of-divided : (d : ℕ) (t : Linear) → suc d ≡ content t.pairs → row_of (divided (suc d) t) ≡ quotient (suc d) (row_of t)
row_of-divided d t e = ap (λ (c : ℕ → ℤ). record { coefficient = c; rest = (quotient (suc d) (row_of t)).rest }) (fun_ext (λ v. sym (ap (λ (z : ℤ). floor_of z (suc d)) (sym (coefficients_divide d t v e)) ∙ floor_of-multiple d (coefficient_of v (quotients (suc d) t.pairs)))))

-- ---- numbers stay small

coefficient_below : (v low : ℕ) (ps : List (ℕ × ℤ)) → AscendsFrom low ps → AllBelow term_limit ps → IsBelow term_limit (coefficient_of v ps)
coefficient_below v low [] a h = omega arith
coefficient_below v low (p ∷ ps) a h = by_same v p.0 (λ b. IsBelow term_limit ((if b then p.1 else pos 0) +ℤ coefficient_of v ps))
    (λ e. subst (λ (z : ℤ). IsBelow term_limit (p.1 +ℤ z)) (sym (coefficient_of-absent v (p.0 + 1) ps (omega (arith, e)) (AllFrom-ascends (p.0 + 1) ps a.1))) (subst (IsBelow term_limit) (sym (+ℤ_idr p.1)) h.0))
    (λ n. subst (IsBelow term_limit) (sym (+ℤ_idl (coefficient_of v ps))) (coefficient_below v (p.0 + 1) ps a.1 h.1))

below_value : (z : ℤ) → IsBelow term_limit z → IsBelow value_limit z
below_value z h = omega (arith, h)

-- a term in normal form whose numbers are below 2 ^ 100
small_row : (ps : List (ℕ × ℤ)) (t : Linear) → t.pairs ≡ normal_of ps → IsWithin term_limit t → IsSmall (row_of t)
small_row ps t e h = record {
  coefficients = λ v. below_value (coefficient_of v t.pairs) (coefficient_below v 0 t.pairs (subst (AscendsFrom 0) (sym e) (AscendsFrom-normal_of 0 ps (AllFrom-zero ps))) h.coefficients);
  constant = below_value t.rest h.constant;
}

-- ---- steps

-- the rows as plain data
abbrev pub plain : List Linear → List PlainRow
plain rows = map row_of rows

abbrev pub claims_of : List Linear → List Claim
claims_of given = map Le given

plain_at : (rows : List Linear) (a : ℕ) → steps.row_at (plain rows) a ≡ row_of (row_at rows a)
plain_at rows a = get_or-map row_of rows a (constant_of (pos 0))

given_at : (given : List Linear) (at : ℕ) → at < length given → slice_get (claims_of given) at ≡ Some (Le (row_at given at))
given_at given at h = slice_get-map Le given at ∙ ap (option_map Le) (slice_get-get_or given at (constant_of (pos 0)) h)

can_combine : (rows : List Linear) (a : ℕ) (m : ℤ) (b : ℕ) (n : ℤ) → a < length rows → b < length rows → IsLeastSum (row_at rows a) m (row_at rows b) n → CanCombine (plain rows) a m b n
can_combine rows a m b n ha hb least = record {
  first_stands = omega (arith, length-map rows row_of);
  second_stands = omega (arith, length-map rows row_of);
  first_positive = subst (λ (z : ℤ). pos 0 ≤ℤ z) (sym least.first) (omega (arith, ints));
  second_positive = subst (λ (z : ℤ). pos 0 ≤ℤ z) (sym least.second) (omega (arith, ints));
  first_small = subst (λ (r : PlainRow). IsSmall (multiple m r)) (sym (plain_at rows a)) (subst IsSmall (row_of-scaled m u) (small_row (times m u.pairs) (scaled m u) refl least.first_narrow));
  second_small = subst (λ (r : PlainRow). IsSmall (multiple n r)) (sym (plain_at rows b)) (subst IsSmall (row_of-scaled n l) (small_row (times n l.pairs) (scaled n l) refl least.second_narrow));
  sum_small = subst (λ (r : PlainRow). IsSmall (sum_of_rows (multiple m r) (multiple n (steps.row_at (plain rows) b)))) (sym (plain_at rows a)) (subst (λ (r : PlainRow). IsSmall (sum_of_rows (multiple m (row_of u)) (multiple n r))) (sym (plain_at rows b)) (subst IsSmall combined (small_row ((scaled m u).pairs ++ (scaled n l).pairs) (sum_of (scaled m u) (scaled n l)) refl least.sum_narrow)));
}
  where
    u : Linear
    u = row_at rows a

    l : Linear
    l = row_at rows b

    combined : row_of (sum_of (scaled m u) (scaled n l)) ≡ sum_of_rows (multiple m (row_of u)) (multiple n (row_of l))
    combined = row_of-sum (scaled m u) (scaled n l) ∙ ap (λ (r : PlainRow). sum_of_rows r (row_of (scaled n l))) (row_of-scaled m u) ∙ ap (sum_of_rows (multiple m (row_of u))) (row_of-scaled n l)

can_tighten : (rows : List Linear) (a : ℕ) (d : ℤ) → a < length rows → d ≡ pos (content (row_at rows a).pairs) → content (row_at rows a).pairs ≢ 0 → CanTighten (plain rows) a d
can_tighten rows a d h e positive = record {
  stands = omega (arith, length-map rows row_of);
  positive = subst (λ (z : ℤ). pos 0 <ℤ z) (sym e) (omega (arith, ints, positive));
  divides = λ v. subst (λ (r : PlainRow). Divides (unsigned_abs d) (r.coefficient v)) (sym (plain_at rows a)) (subst (λ (z : ℤ). Divides (unsigned_abs z) ((row_of (row_at rows a)).coefficient v)) (sym e) (at_content (content (row_at rows a).pairs) refl positive v));
}
  where
    at_content : (n : ℕ) → n ≡ content (row_at rows a).pairs → n ≢ 0 → (v : ℕ) → Divides n ((row_of (row_at rows a)).coefficient v)
    at_content zero same not_zero v = absurd (not_zero refl)
    at_content (suc n) same not_zero v = divides_row n (row_at rows a) v same

is_allowed : (given rows : List Linear) (step : RowStep) → IsDeriving given rows step → IsAllowed (claims_of given) (plain rows) step
is_allowed given rows (Given at) h = subst IsRow (sym (given_at given at h)) tt
is_allowed given rows (Reversed at) h = absurd h
is_allowed given rows (Combine a m b n) h = can_combine rows a m b n h.0 h.1 h.2
is_allowed given rows (Tighten a d) h = can_tighten rows a d h.0 h.1 h.2

made_divided : (n : ℕ) (t : Linear) → n ≡ content t.pairs → n ≢ 0 → quotient n (row_of t) ≡ row_of (divided n t)
made_divided zero t e h = absurd (h refl)
made_divided (suc n) t e h = sym (row_of-divided n t e)

same_made : (given rows : List Linear) (step : RowStep) → IsDeriving given rows step → steps.made (claims_of given) (plain rows) step ≡ row_of (made given rows step)
same_made given rows (Given at) h = ap (λ (c : Option Claim). row_of (term_of c)) (given_at given at h)
same_made given rows (Reversed at) h = absurd h
same_made given rows (Combine a m b n) h =
    ap (λ (r : PlainRow). sum_of_rows (multiple m r) (multiple n (steps.row_at (plain rows) b))) (plain_at rows a)
    ∙ ap (λ (r : PlainRow). sum_of_rows (multiple m (row_of (row_at rows a))) (multiple n r)) (plain_at rows b)
    ∙ sym (row_of-sum (scaled m (row_at rows a)) (scaled n (row_at rows b)) ∙ ap (λ (r : PlainRow). sum_of_rows r (row_of (scaled n (row_at rows b)))) (row_of-scaled m (row_at rows a)) ∙ ap (sum_of_rows (multiple m (row_of (row_at rows a)))) (row_of-scaled n (row_at rows b)))
same_made given rows (Tighten a d) h =
    ap (quotient (unsigned_abs d)) (plain_at rows a)
    ∙ ap (λ (z : ℤ). quotient (unsigned_abs z) (row_of (row_at rows a))) h.1
    ∙ made_divided (content (row_at rows a).pairs) (row_at rows a) refl h.2
    ∙ ap (λ (z : ℤ). row_of (divided (unsigned_abs z) (row_at rows a))) (sym h.1)

-- ---- all steps

abbrev pub steps_of : List (RowStep × Linear) → List RowStep
steps_of entries = map (λ e. e.0) entries

abbrev pub rows_of : List (RowStep × Linear) → List Linear
rows_of entries = map (λ e. e.1) entries

map-push : {A B : Type 0} (g : A → B) (xs : List A) (x : A) → map g (xs ++ x ∷ []) ≡ map g xs ++ g x ∷ []
map-push g [] x = refl
map-push g (y ∷ ys) x = ap (λ zs. g y ∷ zs) (map-push g ys x)

one_more : (given : List Linear) (before : List (RowStep × Linear)) (e : RowStep × Linear) → IsDeriving given (rows_of before) e.0 → e.1 ≡ made given (rows_of before) e.0 → plain (rows_of before) ++ steps.made (claims_of given) (plain (rows_of before)) e.0 ∷ [] ≡ plain (rows_of (before ++ e ∷ []))
one_more given before e deriving_ is =
    ap (λ (r : PlainRow). plain (rows_of before) ++ r ∷ []) (same_made given (rows_of before) e.0 deriving_ ∙ ap row_of (sym is))
    ∙ sym (ap plain (map-push (λ (d : RowStep × Linear). d.1) before e) ∙ map-push row_of (rows_of before) e.1)

pub derived_allowed : (given : List Linear) (before es : List (RowStep × Linear)) → Derive given before es → AreAllowed (claims_of given) (plain (rows_of before)) (steps_of es)
derived_allowed given before [] h = tt
derived_allowed given before (e ∷ es) h = (is_allowed given (rows_of before) e.0 h.0, subst (λ (rows : List PlainRow). AreAllowed (claims_of given) rows (steps_of es)) (sym (one_more given before e h.0 h.1)) (derived_allowed given (before ++ e ∷ []) es h.2))

pub derived_made : (given : List Linear) (before es : List (RowStep × Linear)) → Derive given before es → rows_made (claims_of given) (plain (rows_of before)) (steps_of es) ≡ plain (rows_of (before ++ es))
derived_made given before [] h = ap (λ (zs : List (RowStep × Linear)). plain (rows_of zs)) (sym (append-nil before))
derived_made given before (e ∷ es) h =
    ap (λ (rows : List PlainRow). rows_made (claims_of given) rows (steps_of es)) (one_more given before e h.0 h.1)
    ∙ derived_made given (before ++ e ∷ []) es h.2
    ∙ ap (λ (zs : List (RowStep × Linear)). plain (rows_of zs)) (append_assoc before (e ∷ []) es)

last_row-push : (rows : List PlainRow) (r : PlainRow) → last_row (rows ++ r ∷ []) ≡ r
last_row-push [] r = refl
last_row-push (s ∷ []) r = refl
last_row-push (s ∷ t ∷ rows) r = last_row-push (t ∷ rows) r

absurd_plain : (r : Linear) → IsAbsurdRow r → IsAbsurd (row_of r)
absurd_plain r h = record { no_variable = λ v. ap (coefficient_of v) h.no_variable; positive = h.positive }

-- steps whose last row is absurd close the list of the given rows
pub absurd_closes : (given : List Linear) (es : List (RowStep × Linear)) (e : RowStep × Linear) → AreDerived given (es ++ e ∷ []) → IsAbsurdRow e.1 → Closes (claims_of given) (steps_of (es ++ e ∷ []))
absurd_closes given es e derived h = record {
  allowed = derived_allowed given [] (es ++ e ∷ []) derived;
  absurd_row = subst (λ (rows : List PlainRow). IsAbsurd (last_row rows)) (sym (derived_made given [] (es ++ e ∷ []) derived ∙ ap plain (map-push (λ (d : RowStep × Linear). d.1) es e) ∙ map-push row_of (rows_of es) e.1)) (subst IsAbsurd (sym (last_row-push (plain (rows_of es)) (row_of e.1))) (absurd_plain e.1 h));
}

-- ---- the steps so far

pub derive_push : (given : List Linear) (before es : List (RowStep × Linear)) (e : RowStep × Linear) → Derive given before es → IsDeriving given (rows_of (before ++ es)) e.0 → e.1 ≡ made given (rows_of (before ++ es)) e.0 → Derive given before (es ++ e ∷ [])
derive_push given before [] e h d is = (subst (λ (zs : List (RowStep × Linear)). IsDeriving given (rows_of zs) e.0) (append-nil before) d, is ∙ ap (λ (zs : List (RowStep × Linear)). made given (rows_of zs) e.0) (append-nil before), tt)
derive_push given before (f ∷ es) e h d is = (h.0, h.1, derive_push given (before ++ f ∷ []) es e h.2 (subst (λ (zs : List (RowStep × Linear)). IsDeriving given (rows_of zs) e.0) (sym (append_assoc before (f ∷ []) es)) d) (is ∙ ap (λ (zs : List (RowStep × Linear)). made given (rows_of zs) e.0) (sym (append_assoc before (f ∷ []) es))))

pub derive_front : (given : List Linear) (before es fs : List (RowStep × Linear)) → Derive given before (es ++ fs) → Derive given before es
derive_front given before [] fs h = tt
derive_front given before (e ∷ es) fs h = (h.0, h.1, derive_front given (before ++ e ∷ []) es fs h.2)
