-- The columns of the rows that steps make are the numbers that the steps make in each column.
use Rattle.std.proofs.Common.{◌≡◌, ℕ, zero, suc, ◌+◌, ◌<◌, Bool, true, false, List, [], ◌∷◌, ◌++◌, length, map, refl, sym, ◌∙◌, ap, subst, arith, ◌⊎◌, inl, inr, ◌%◌, length-append}
use Rattle.std.specs.Prelude.{ℤ, pos, ◌+ℤ◌, ◌*ℤ◌, ◌<ℤ◌, ◌≤ℤ◌, neg_ℤ, unsigned_abs, IsTrue, ◌↔◌, ◌==◌}
use Rattle.std.proofs.Math.ListN.{get_or-map}
use Rattle.std.proofs.Math.IntN.{*ℤ-zero, +ℤ_idl}
use Rattle.std.proofs.lemmas.Bool.Decides.{nat_tests}
use Rattle.std.proofs.lemmas.Int.{ints}
use Rattle.std.proofs.lemmas.List.{map-append, length-map}
use Rattle.carol_formula.specs.Bounds.{IsBelow, value_limit}
use Rattle.carol_formula.specs.Linear.{coefficient_of}
use Rattle.carol_formula.specs.Claim.{Claim}
use Rattle.carol_formula.specs.Division.{floor_of}
use Rattle.carol_cert.specs.PlainRow.{PlainRow, multiple, sum_of_rows, IsSmall, zero_row, last_row}
use Rattle.carol_cert.specs.Steps.{row_at, made, IsAllowed, rows_made, AreAllowed, Closes}
use Rattle.carol_cert.specs.Columns.{entry_of, number_of, last_number, number_made, IsSound, numbers_made, AreSound, Vanishes, EachVanishes, cited, CitedVanish}
use Rattle.carol_cert.specs.declared.step.RowStep.{RowStep}
use Rattle.carol_cert.specs.declared.step.RowStep.TheVariants.{Given, Reversed, Combine, Tighten}
use Rattle.carol_cert.specs.declared.column.Column.{Column}
use Rattle.carol_cert.specs.declared.column.Column.TheVariants.{Coefficient, Constant}

-- ---- one row

number_of-map : (c : Column) (rows : List PlainRow) (a : ℕ) → number_of (map (entry_of c) rows) a ≡ entry_of c (row_at rows a)
number_of-map (Coefficient v) rows a = get_or-map (entry_of (Coefficient v)) rows a zero_row
number_of-map Constant rows a = get_or-map (entry_of Constant) rows a zero_row

-- the entry of the sum of two multiples
entry_of-sum : (c : Column) (rows : List PlainRow) (a : ℕ) (m : ℤ) (b : ℕ) (n : ℤ) → entry_of c (sum_of_rows (multiple m (row_at rows a)) (multiple n (row_at rows b))) ≡ (m *ℤ number_of (map (entry_of c) rows) a) +ℤ (n *ℤ number_of (map (entry_of c) rows) b)
entry_of-sum (Coefficient v) rows a m b n = rw (number_of-map (Coefficient v) rows a, number_of-map (Coefficient v) rows b) refl
entry_of-sum Constant rows a m b n = rw (number_of-map Constant rows a, number_of-map Constant rows b) refl

entry_of-multiple : (c : Column) (rows : List PlainRow) (a : ℕ) (m : ℤ) → entry_of c (multiple m (row_at rows a)) ≡ m *ℤ number_of (map (entry_of c) rows) a
entry_of-multiple (Coefficient v) rows a m = rw (number_of-map (Coefficient v) rows a) refl
entry_of-multiple Constant rows a m = rw (number_of-map Constant rows a) refl

entry_of-made : (c : Column) (claims : List Claim) (rows : List PlainRow) (s : RowStep) → entry_of c (made claims rows s) ≡ number_made c claims (map (entry_of c) rows) s
entry_of-made (Coefficient v) claims rows (Given at) = refl
entry_of-made Constant claims rows (Given at) = refl
entry_of-made (Coefficient v) claims rows (Reversed at) = refl
entry_of-made Constant claims rows (Reversed at) = refl
entry_of-made c claims rows (Combine a m b n) = entry_of-sum c rows a m b n
entry_of-made (Coefficient v) claims rows (Tighten a d) = rw (number_of-map (Coefficient v) rows a) refl
entry_of-made Constant claims rows (Tighten a d) = rw (number_of-map Constant rows a) refl

small_entry : (c : Column) (r : PlainRow) → IsSmall r → IsBelow value_limit (entry_of c r)
small_entry (Coefficient v) r s = s.coefficients v
small_entry Constant r s = s.constant

small_row : (r : PlainRow) → ((c : Column) → IsBelow value_limit (entry_of c r)) → IsSmall r
small_row r h = record { coefficients = λ v. h (Coefficient v); constant = h Constant }

below_along : (y z : ℤ) → y ≡ z → IsBelow value_limit y → IsBelow value_limit z
below_along y z e h = subst (λ x. IsBelow value_limit x) e h

stands_in_map : (c : Column) (rows : List PlainRow) (a : ℕ) → a < length rows → a < length (map (entry_of c) rows)
stands_in_map c rows a h = omega (arith, length-map rows (entry_of c))

stands_in_rows : (c : Column) (rows : List PlainRow) (a : ℕ) → a < length (map (entry_of c) rows) → a < length rows
stands_in_rows c rows a h = omega (arith, length-map rows (entry_of c))

-- ---- one step

sound_from_allowed : (c : Column) (claims : List Claim) (rows : List PlainRow) (s : RowStep) → IsAllowed claims rows s → IsSound c claims (map (entry_of c) rows) s
sound_from_allowed c claims rows (Given at) h = h
sound_from_allowed c claims rows (Reversed at) h = h
sound_from_allowed c claims rows (Combine a m b n) h =
    record {
      first_stands = stands_in_map c rows a h.first_stands;
      second_stands = stands_in_map c rows b h.second_stands;
      first_positive = h.first_positive;
      second_positive = h.second_positive;
      first_small = below_along _ _ (entry_of-multiple c rows a m) (small_entry c _ h.first_small);
      second_small = below_along _ _ (entry_of-multiple c rows b n) (small_entry c _ h.second_small);
      sum_small = below_along _ _ (entry_of-sum c rows a m b n) (small_entry c _ h.sum_small);
    }
sound_from_allowed (Coefficient v) claims rows (Tighten a d) h =
    record { stands = stands_in_map (Coefficient v) rows a h.stands; positive = h.positive; divides = rw (number_of-map (Coefficient v) rows a) (h.divides v) }
sound_from_allowed Constant claims rows (Tighten a d) h =
    record { stands = stands_in_map Constant rows a h.stands; positive = h.positive; divides = tt }

allowed_from_sound : (claims : List Claim) (rows : List PlainRow) (s : RowStep) → ((c : Column) → IsSound c claims (map (entry_of c) rows) s) → IsAllowed claims rows s
allowed_from_sound claims rows (Given at) h = h Constant
allowed_from_sound claims rows (Reversed at) h = h Constant
allowed_from_sound claims rows (Combine a m b n) h =
    record {
      first_stands = stands_in_rows Constant rows a (h Constant).first_stands;
      second_stands = stands_in_rows Constant rows b (h Constant).second_stands;
      first_positive = (h Constant).first_positive;
      second_positive = (h Constant).second_positive;
      first_small = small_row _ (λ c. below_along _ _ (sym (entry_of-multiple c rows a m)) (h c).first_small);
      second_small = small_row _ (λ c. below_along _ _ (sym (entry_of-multiple c rows b n)) (h c).second_small);
      sum_small = small_row _ (λ c. below_along _ _ (sym (entry_of-sum c rows a m b n)) (h c).sum_small);
    }
allowed_from_sound claims rows (Tighten a d) h =
    record {
      stands = stands_in_rows Constant rows a (h Constant).stands;
      positive = (h Constant).positive;
      divides = λ v. rw (number_of-map (Coefficient v) rows a) at (h (Coefficient v)).divides;
    }

-- ---- all steps

-- the column grows as the rows do
map-more : (c : Column) (claims : List Claim) (rows : List PlainRow) (s : RowStep) → map (entry_of c) (rows ++ made claims rows s ∷ []) ≡ map (entry_of c) rows ++ number_made c claims (map (entry_of c) rows) s ∷ []
map-more c claims rows s = map-append (entry_of c) rows (made claims rows s ∷ []) ∙ ap (λ z. map (entry_of c) rows ++ z ∷ []) (entry_of-made c claims rows s)

map-rows_made : (c : Column) (claims : List Claim) (rows : List PlainRow) (steps : List RowStep) → map (entry_of c) (rows_made claims rows steps) ≡ numbers_made c claims (map (entry_of c) rows) steps
map-rows_made c claims rows [] = refl
map-rows_made c claims rows (s ∷ steps) =
    map-rows_made c claims (rows ++ made claims rows s ∷ []) steps ∙ ap (λ ns. numbers_made c claims ns steps) (map-more c claims rows s)

all_sound : (c : Column) (claims : List Claim) (rows : List PlainRow) (steps : List RowStep) → AreAllowed claims rows steps → AreSound c claims (map (entry_of c) rows) steps
all_sound c claims rows [] h = tt
all_sound c claims rows (s ∷ steps) h =
    (sound_from_allowed c claims rows s h.0, subst (λ ns. AreSound c claims ns steps) (map-more c claims rows s) (all_sound c claims (rows ++ made claims rows s ∷ []) steps h.1))

all_allowed : (claims : List Claim) (rows : List PlainRow) (steps : List RowStep) → ((c : Column) → AreSound c claims (map (entry_of c) rows) steps) → AreAllowed claims rows steps
all_allowed claims rows [] h = tt
all_allowed claims rows (s ∷ steps) h = (
  allowed_from_sound claims rows s (λ c. (h c).0),
  all_allowed claims (rows ++ made claims rows s ∷ []) steps (λ c. subst (λ ns. AreSound c claims ns steps) (sym (map-more c claims rows s)) (h c).1),
)

entry_of-last_row : (c : Column) (rows : List PlainRow) → entry_of c (last_row rows) ≡ last_number (map (entry_of c) rows)
entry_of-last_row (Coefficient v) [] = refl
entry_of-last_row Constant [] = refl
entry_of-last_row c (r ∷ []) = refl
entry_of-last_row c (r ∷ s ∷ rows) = entry_of-last_row c (s ∷ rows)

last_entry : (c : Column) (claims : List Claim) (steps : List RowStep) → entry_of c (last_row (rows_made claims [] steps)) ≡ last_number (numbers_made c claims [] steps)
last_entry c claims steps = entry_of-last_row c (rows_made claims [] steps) ∙ ap last_number (map-rows_made c claims [] steps)

-- ---- a variable that no step takes from the claims

abbrev AllZero : List ℤ → Type 0
AllZero [] = Unit {0}
AllZero (z ∷ zs) = (z ≡ pos 0) × AllZero zs

number_of-zeros : (zs : List ℤ) (a : ℕ) → AllZero zs → number_of zs a ≡ pos 0
number_of-zeros [] a h = refl
number_of-zeros (z ∷ zs) zero h = h.0
number_of-zeros (z ∷ zs) (suc a) h = number_of-zeros zs a h.1

AllZero-push : (zs : List ℤ) (z : ℤ) → AllZero zs → z ≡ pos 0 → AllZero (zs ++ z ∷ [])
AllZero-push [] z h e = (e, tt)
AllZero-push (y ∷ zs) z h e = (h.0, AllZero-push zs z h.1 e)

last_number-zeros : (zs : List ℤ) → AllZero zs → last_number zs ≡ pos 0
last_number-zeros [] h = refl
last_number-zeros (z ∷ []) h = h.0
last_number-zeros (z ∷ y ∷ zs) h = last_number-zeros (y ∷ zs) h.1

-- no step takes the variable from the claims
abbrev IsAbsent : ℕ → List Claim → List RowStep → Type 0
IsAbsent v claims [] = Unit {0}
IsAbsent v claims (s ∷ steps) = (coefficient_of v (cited claims s) ≡ pos 0) × IsAbsent v claims steps

zero_small : (z : ℤ) → z ≡ pos 0 → IsBelow value_limit z
zero_small z e = below_along (pos 0) z (sym e) (omega arith)

times_zero : (m z : ℤ) → z ≡ pos 0 → m *ℤ z ≡ pos 0
times_zero m z e = ap (λ y. m *ℤ y) e ∙ *ℤ-zero m

sum_zero : (y z : ℤ) → y ≡ pos 0 → z ≡ pos 0 → y +ℤ z ≡ pos 0
sum_zero y z e f = ap (λ x. x +ℤ z) e ∙ ap (λ x. pos 0 +ℤ x) f

absent_made : (v : ℕ) (claims : List Claim) (zs : List ℤ) (s : RowStep) → AllZero zs → coefficient_of v (cited claims s) ≡ pos 0 → number_made (Coefficient v) claims zs s ≡ pos 0
absent_made v claims zs (Given at) h e = e
absent_made v claims zs (Reversed at) h e = ap neg_ℤ e
absent_made v claims zs (Combine a m b n) h e = sum_zero _ _ (times_zero m _ (number_of-zeros zs a h)) (times_zero n _ (number_of-zeros zs b h))
absent_made v claims zs (Tighten a d) h e = ap (λ z. floor_of z (unsigned_abs d)) (number_of-zeros zs a h) ∙ ap pos (omega arith)

absent_sound : (v : ℕ) (claims : List Claim) (ks zs : List ℤ) (s : RowStep) → length ks ≡ length zs → AllZero zs → IsSound Constant claims ks s → IsSound (Coefficient v) claims zs s
absent_sound v claims ks zs (Given at) l h k = k
absent_sound v claims ks zs (Reversed at) l h k = k
absent_sound v claims ks zs (Combine a m b n) l h k =
    let first : m *ℤ number_of zs a ≡ pos 0 = times_zero m _ (number_of-zeros zs a h) in
    let second : n *ℤ number_of zs b ≡ pos 0 = times_zero n _ (number_of-zeros zs b h) in
    record {
      first_stands = subst (λ x. a < x) l k.first_stands;
      second_stands = subst (λ x. b < x) l k.second_stands;
      first_positive = k.first_positive;
      second_positive = k.second_positive;
      first_small = zero_small _ first;
      second_small = zero_small _ second;
      sum_small = zero_small _ (sum_zero _ _ first second);
    }
absent_sound v claims ks zs (Tighten a d) l h k =
    record {
      stands = subst (λ x. a < x) l k.stands;
      positive = k.positive;
      divides = ap (λ z. unsigned_abs z % unsigned_abs d) (number_of-zeros zs a h) ∙ omega arith;
    }

absent_vanishes : (v : ℕ) (claims : List Claim) (ks zs : List ℤ) (steps : List RowStep) → length ks ≡ length zs → AllZero zs → IsAbsent v claims steps → AreSound Constant claims ks steps → AreSound (Coefficient v) claims zs steps × AllZero (numbers_made (Coefficient v) claims zs steps)
absent_vanishes v claims ks zs [] l h e k = (tt, h)
absent_vanishes v claims ks zs (s ∷ steps) l h e k =
    let more = absent_vanishes v claims (ks ++ number_made Constant claims ks s ∷ []) (zs ++ number_made (Coefficient v) claims zs s ∷ []) steps
    (length-append ks _ ∙ ap (λ n. n + 1) l ∙ sym (length-append zs _)) (AllZero-push zs _ h (absent_made v claims zs s h e.0)) e.1 k.1 in
    ((absent_sound v claims ks zs s l h k.0, more.0), more.1)

-- ---- a variable of some claim

same_number : (v w : ℕ) → v == w ≡ true → v ≡ w
same_number v w e = grind (arith, nat_tests)

vanishes_or_none : (claims : List Claim) (steps : List RowStep) (v : ℕ) (ps : List (ℕ × ℤ)) → EachVanishes claims steps ps → Vanishes claims steps v ⊎ (coefficient_of v ps ≡ pos 0)
vanishes_or_none claims steps v [] h = inr refl
vanishes_or_none claims steps v (p ∷ ps) h =
    elim (vanishes_or_none claims steps v ps h.1) [
      | inl yes' ↦ inl yes'
      | inr none ↦ by_test (v == p.0) refl none
    ]
  where
    by_test : (t : Bool) → v == p.0 ≡ t → coefficient_of v ps ≡ pos 0 → Vanishes claims steps v ⊎ (coefficient_of v (p ∷ ps) ≡ pos 0)
    by_test true e none = inl (subst (Vanishes claims steps) (sym (same_number v p.0 e)) h.0)
    by_test false e none = inr (rw e (+ℤ_idl (coefficient_of v ps) ∙ none))

vanishes_or_absent : (claims : List Claim) (steps : List RowStep) (v : ℕ) (rest : List RowStep) → CitedVanish claims steps rest → Vanishes claims steps v ⊎ IsAbsent v claims rest
vanishes_or_absent claims steps v [] h = inr tt
vanishes_or_absent claims steps v (s ∷ rest) h =
    elim (vanishes_or_absent claims steps v rest h.1) [
      | inl here ↦ inl here
      | inr others ↦ elim (vanishes_or_none claims steps v (cited claims s) h.0) [ inl here ↦ inl here | inr none ↦ inr (none, others) ]
    ]

-- each variable is gone, if those that steps take from the claims are
each_vanishes : (claims : List Claim) (steps : List RowStep) → AreSound Constant claims [] steps → CitedVanish claims steps steps → (v : ℕ) → Vanishes claims steps v
each_vanishes claims steps k h v =
    elim (vanishes_or_absent claims steps v steps h) [
      | inl here ↦ here
      | inr absent ↦ let zeros = absent_vanishes v claims [] [] steps refl tt absent k in (zeros.0, last_number-zeros _ zeros.1)
    ]

-- ---- what the code decides

closes : (claims : List Claim) (steps : List RowStep) → AreSound Constant claims [] steps → pos 0 <ℤ last_number (numbers_made Constant claims [] steps) → CitedVanish claims steps steps → Closes claims steps
closes claims steps k p h =
    let gone : (v : ℕ) → Vanishes claims steps v = each_vanishes claims steps k h in
    record {
      allowed = all_allowed claims [] steps (λ c. column_sound c gone);
      absurd_row = record { no_variable = λ v. last_entry (Coefficient v) claims steps ∙ (gone v).1; positive = rw (last_entry Constant claims steps) p };
    }
  where
    column_sound : (c : Column) → ((v : ℕ) → Vanishes claims steps v) → AreSound c claims [] steps
    column_sound (Coefficient v) gone = (gone v).0
    column_sound Constant gone = k

constants_sound : (claims : List Claim) (steps : List RowStep) → Closes claims steps → AreSound Constant claims [] steps
constants_sound claims steps h = all_sound Constant claims [] steps h.allowed

last_positive : (claims : List Claim) (steps : List RowStep) → Closes claims steps → pos 0 <ℤ last_number (numbers_made Constant claims [] steps)
last_positive claims steps h = subst (λ z. pos 0 <ℤ z) (last_entry Constant claims steps) h.absurd_row.positive

vanishes : (claims : List Claim) (steps : List RowStep) → Closes claims steps → (v : ℕ) → Vanishes claims steps v
vanishes claims steps h v = (all_sound (Coefficient v) claims [] steps h.allowed, sym (last_entry (Coefficient v) claims steps) ∙ h.absurd_row.no_variable v)

each_of : (claims : List Claim) (steps : List RowStep) → Closes claims steps → (ps : List (ℕ × ℤ)) → EachVanishes claims steps ps
each_of claims steps h [] = tt
each_of claims steps h (p ∷ ps) = (vanishes claims steps h p.0, each_of claims steps h ps)

cited_vanish : (claims : List Claim) (steps rest : List RowStep) → Closes claims steps → CitedVanish claims steps rest
cited_vanish claims steps [] h = tt
cited_vanish claims steps (s ∷ rest) h = (each_of claims steps h (cited claims s), cited_vanish claims steps rest h)

-- with a last constant above 0, the steps close the claims exactly where the variables are gone
pub closes_where_vanish : (claims : List Claim) (steps : List RowStep) (number : ℤ) (r : Bool) → AreSound Constant claims [] steps × (number ≡ last_number (numbers_made Constant claims [] steps)) → pos 0 <ℤ number → (IsTrue r ↔ CitedVanish claims steps steps) → IsTrue r ↔ Closes claims steps
closes_where_vanish claims steps number r k p h =
    ((λ yes'. closes claims steps k.0 (subst (λ z. pos 0 <ℤ z) k.1 p) (h.0 yes')), (λ all. h.1 (cited_vanish claims steps steps all)))

-- with another one they don't
pub not_positive : (claims : List Claim) (steps : List RowStep) (number : ℤ) → AreSound Constant claims [] steps × (number ≡ last_number (numbers_made Constant claims [] steps)) → number ≤ℤ pos 0 → IsTrue false ↔ Closes claims steps
not_positive claims steps number k low = (
  (λ no_such. cc),
  (λ h. let high : pos 0 <ℤ number = subst (λ z. pos 0 <ℤ z) (sym k.1) (last_positive claims steps h) in absurd (omega (arith, ints))),
)

-- nor where a step isn't sound
pub not_sound : (claims : List Claim) (steps : List RowStep) → (AreSound Constant claims [] steps → ⊥) → IsTrue false ↔ Closes claims steps
not_sound claims steps n = ((λ no_such. cc), (λ h. absurd (n (constants_sound claims steps h))))
