-- The needed steps make the rows that they make among all steps.
use Rattle.std.proofs.Common.{◌≡◌, ◌≢◌, ℕ, ◌+◌, ◌<◌, ◌≤◌, Bool, true, false, List, [], ◌∷◌, ◌++◌, length, map, take, refl, sym, ◌∙◌, ap, subst, arith, inl, inr}
use Rattle.std.specs.Prelude.{Some, slice_get, unwrap_or, ℤ, unsigned_abs}
use Rattle.std.proofs.lemmas.List.{get_or-take, get_or_append_left, get_or_push, length-take-le, length_push}
use Rattle.std.proofs.lemmas.Int.{ints}
use Rattle.std.proofs.lemmas.Option.{unwrap_or-slice_get, slice_get_within}
use Rattle.std.proofs.lemmas.Bool.{false≢true, cases_lt}
use Rattle.carol_formula.specs.Division.{Divides}
use Rattle.carol_formula.specs.Linear.{Linear}
use Rattle.carol_formula.specs.Claim.{Claim, Le}
use Rattle.carol_cert.specs.PlainRow.{PlainRow, zero_row, last_row, multiple, sum_of_rows, quotient, IsSmall, IsAbsurd}
use Rattle.carol_cert.specs.Steps.{row_at, made, CanCombine, CanTighten, IsAllowed, rows_made, AreAllowed, Closes}
use Rattle.carol_cert.specs.declared.step.RowStep.{RowStep}
use Rattle.carol_cert.specs.declared.step.RowStep.TheVariants.{Given, Reversed, Combine, Tighten}
use Rattle.carol_linear.specs.Names.{AreNamed}
use Rattle.carol_linear.specs.Pruned.{mark_at, MarksParts, IsMarked, place_of, renumbered, with_needed, IsLeaf}
use Rattle.carol_linear.proofs.Making.{rows_made-push, AreAllowed-push, length-rows_made, last_row-push, last_row-at, MakesRow, makes_row}
use Rattle.carol_linear.proofs.Naming.{no_equation, name_at}

-- the copy of the first n steps makes each marked row, at its place, and the newest one last
pub record Follows (claims : List Claim) (rows : List PlainRow) (marks : List Bool) (n : ℕ) (places : List ℕ) (copy : List RowStep) : Type 0 where
  pub allowed : AreAllowed claims [] copy
  pub placed : (j : ℕ) → j < n → mark_at marks j ≡ true → place_of places j < length copy
  pub same : (j : ℕ) → j < n → mark_at marks j ≡ true → row_at (rows_made claims [] copy) (place_of places j) ≡ row_at rows j
  pub newest : (j : ℕ) → j + 1 ≡ n → mark_at marks j ≡ true → last_row (rows_made claims [] copy) ≡ row_at rows j

-- ---- one step renumbered

-- the step has what it needs, and makes this row
record Makes (claims : List Claim) (before : List PlainRow) (s : RowStep) (row : PlainRow) : Type 0 where
  pub allowed : IsAllowed claims before s
  pub is : made claims before s ≡ row

-- row a of the first n rows stands at its place in the copy
record Moved (rows : List PlainRow) (n : ℕ) (others : List PlainRow) (a p : ℕ) : Type 0 where
  pub stands : p < length others
  pub is : row_at others p ≡ row_at (take n rows) a

below_taken : (rows : List PlainRow) (n a : ℕ) → n ≤ length rows → a < length (take n rows) → a < n
below_taken rows n a l h = omega (arith, length-take-le n rows l)

moved : (claims : List Claim) (rows : List PlainRow) (marks : List Bool) (n : ℕ) (places : List ℕ) (copy : List RowStep) (a : ℕ) → Follows claims rows marks n places copy → n ≤ length rows → a < length (take n rows) → (a < n → mark_at marks a ≡ true) → Moved rows n (rows_made claims [] copy) a (place_of places a)
moved claims rows marks n places copy a f l h marked =
    let below : a < n = below_taken rows n a l h in
    let placed : place_of places a < length copy = f.placed a below (marked below) in
    record {
      stands = omega (arith, length-rows_made claims [] copy, placed);
      is = f.same a below (marked below) ∙ sym (get_or-take n rows a zero_row below);
    }

combine_moved : (claims : List Claim) (before others : List PlainRow) (a p : ℕ) (m : ℤ) (b q : ℕ) (k : ℤ) → p < length others → row_at others p ≡ row_at before a → q < length others → row_at others q ≡ row_at before b → CanCombine before a m b k → Makes claims others (Combine p m q k) (made claims before (Combine a m b k))
combine_moved claims before others a p m b q k first first_is second second_is h =
    let sum_is : made claims others (Combine p m q k) ≡ made claims before (Combine a m b k) =
    ap (λ r. sum_of_rows (multiple m r) (multiple k (row_at others q))) first_is ∙ ap (λ r. sum_of_rows (multiple m (row_at before a)) (multiple k r)) second_is
    in
    record {
      allowed = record {
        first_stands = first;
        second_stands = second;
        first_positive = h.first_positive;
        second_positive = h.second_positive;
        first_small = subst (λ r. IsSmall (multiple m r)) (sym first_is) h.first_small;
        second_small = subst (λ r. IsSmall (multiple k r)) (sym second_is) h.second_small;
        sum_small = subst IsSmall (sym sum_is) h.sum_small;
      };
      is = sum_is;
    }

tighten_moved : (claims : List Claim) (before others : List PlainRow) (a p : ℕ) (d : ℤ) → p < length others → row_at others p ≡ row_at before a → CanTighten before a d → Makes claims others (Tighten p d) (made claims before (Tighten a d))
tighten_moved claims before others a p d stands is h = record {
  allowed = record {
    stands = stands;
    positive = h.positive;
    divides = subst (λ r. (v : ℕ) → Divides (unsigned_abs d) (r.coefficient v)) (sym is) h.divides;
  };
  is = ap (quotient (unsigned_abs d)) is;
}

step_moved : (claims : List Claim) (names : List RowStep) (given : List Linear) (marks : List Bool) (n : ℕ) (places : List ℕ) (copy : List RowStep) (rows : List PlainRow) (s : RowStep) → AreNamed claims names given → Follows claims rows marks n places copy → n ≤ length rows → MarksParts marks n s → IsAllowed (map Le given) (take n rows) s → Makes claims (rows_made claims [] copy) (renumbered names places s) (made (map Le given) (take n rows) s)
step_moved claims names given marks n places copy rows (Given at) named f l parts h =
    let found = name_at claims names given at named h in
    subst (λ s. Makes claims (rows_made claims [] copy) s (made (map Le given) (take n rows) (Given at))) (sym (ap (λ o. unwrap_or o (Given at)) found.1))
    (record { allowed = found.2.allowed (rows_made claims [] copy); is = found.2.is (rows_made claims [] copy) })
step_moved claims names given marks n places copy rows (Reversed at) named f l parts h = absurd (no_equation given at h)
step_moved claims names given marks n places copy rows (Combine a m b k) named f l parts h =
    let first = moved claims rows marks n places copy a f l h.first_stands parts.0 in
    let second = moved claims rows marks n places copy b f l h.second_stands parts.1 in
    combine_moved claims (take n rows) (rows_made claims [] copy) a (place_of places a) m b (place_of places b) k first.stands first.is second.stands second.is h
step_moved claims names given marks n places copy rows (Tighten a d) named f l parts h =
    let first = moved claims rows marks n places copy a f l h.stands parts in
    tighten_moved claims (take n rows) (rows_made claims [] copy) a (place_of places a) d first.stands first.is h

-- ---- one step more

place_of-before : (places : List ℕ) (c j : ℕ) → j < length places → place_of (places ++ c ∷ []) j ≡ place_of places j
place_of-before places c j h = unwrap_or-slice_get (places ++ c ∷ []) j j ∙ get_or_append_left places (c ∷ []) j j h ∙ sym (unwrap_or-slice_get places j j)

place_of-new : (places : List ℕ) (c j : ℕ) → length places ≡ j → place_of (places ++ c ∷ []) j ≡ c
place_of-new places c j h = unwrap_or-slice_get (places ++ c ∷ []) j j ∙ get_or_push places c j j h

follow_unneeded : (claims : List Claim) (rows : List PlainRow) (marks : List Bool) (n : ℕ) (places : List ℕ) (copy : List RowStep) (c : ℕ) → length places ≡ n → mark_at marks n ≡ false → Follows claims rows marks n places copy → Follows claims rows marks (n + 1) (places ++ c ∷ []) copy
follow_unneeded claims rows marks n places copy c l none f = record {
  allowed = f.allowed;
  placed = λ j h marked. subst (λ p. p < length copy) (sym (place_of-before places c j (inside j h marked))) (f.placed j (before j h marked) marked);
  same = λ j h marked. ap (row_at (rows_made claims [] copy)) (place_of-before places c j (inside j h marked)) ∙ f.same j (before j h marked) marked;
  newest = λ j h marked. absurd (not_here j (omega arith) marked);
}
  where
    not_here : (j : ℕ) → j ≡ n → mark_at marks j ≡ true → ⊥
    not_here j e marked = false≢true (sym none ∙ ap (mark_at marks) (sym e) ∙ marked)

    before : (j : ℕ) → j < n + 1 → mark_at marks j ≡ true → j < n
    before j h marked = let other : j ≢ n = λ e. not_here j e marked in omega arith

    inside : (j : ℕ) → j < n + 1 → mark_at marks j ≡ true → j < length places
    inside j h marked = let b = before j h marked in omega (arith, l)

follow_needed : (claims : List Claim) (rows : List PlainRow) (marks : List Bool) (n : ℕ) (places : List ℕ) (copy : List RowStep) (s : RowStep) → length places ≡ n → Makes claims (rows_made claims [] copy) s (row_at rows n) → Follows claims rows marks n places copy → Follows claims rows marks (n + 1) (places ++ length copy ∷ []) (copy ++ s ∷ [])
follow_needed claims rows marks n places copy s l m f = record {
  allowed = AreAllowed-push claims [] copy s f.allowed m.allowed;
  placed = placed;
  same = same;
  newest = λ j h marked. ap last_row grown ∙ last_row-push (rows_made claims [] copy) (made claims (rows_made claims [] copy) s) ∙ m.is ∙ ap (row_at rows) (omega arith);
}
  where
    grown : rows_made claims [] (copy ++ s ∷ []) ≡ rows_made claims [] copy ++ made claims (rows_made claims [] copy) s ∷ []
    grown = rows_made-push claims [] copy s

    count : length (rows_made claims [] copy) ≡ length copy
    count = omega (arith, length-rows_made claims [] copy)

    old : (j p : ℕ) → p < length copy → row_at (rows_made claims [] (copy ++ s ∷ [])) p ≡ row_at (rows_made claims [] copy) p
    old j p h = ap (λ rs. row_at rs p) grown ∙ get_or_append_left (rows_made claims [] copy) (made claims (rows_made claims [] copy) s ∷ []) zero_row p (omega (arith, count))

    new : row_at (rows_made claims [] (copy ++ s ∷ [])) (length copy) ≡ row_at rows n
    new = ap (λ rs. row_at rs (length copy)) grown ∙ get_or_push (rows_made claims [] copy) (made claims (rows_made claims [] copy) s) zero_row (length copy) count ∙ m.is

    placed : (j : ℕ) → j < n + 1 → mark_at marks j ≡ true → place_of (places ++ length copy ∷ []) j < length (copy ++ s ∷ [])
    placed j h marked =
        elim (cases_lt j n) [
          | inl below ↦ let p = f.placed j below marked in let e = place_of-before places (length copy) j (omega (arith, l)) in omega (arith, length_push copy s)
          | inr above ↦ let e = place_of-new places (length copy) j (omega (arith, l)) in omega (arith, length_push copy s)
        ]

    same : (j : ℕ) → j < n + 1 → mark_at marks j ≡ true → row_at (rows_made claims [] (copy ++ s ∷ [])) (place_of (places ++ length copy ∷ []) j) ≡ row_at rows j
    same j h marked =
        elim (cases_lt j n) [
          | inl below ↦ ap (row_at (rows_made claims [] (copy ++ s ∷ []))) (place_of-before places (length copy) j (omega (arith, l))) ∙ old j (place_of places j) (f.placed j below marked) ∙ f.same j below marked
          | inr above ↦ ap (row_at (rows_made claims [] (copy ++ s ∷ []))) (place_of-new places (length copy) j (omega (arith, l))) ∙ new ∙ ap (row_at rows) (omega arith)
        ]

-- ---- all steps

-- whatever claims the rows stand for, the copy of the first n steps follows them
pub record FollowsAll (steps : List RowStep) (marks : List Bool) (names : List RowStep) (n : ℕ) (places : List ℕ) (copy : List RowStep) : Type 0 where
  pub count : length places ≡ n
  pub follows : (claims : List Claim) (given : List Linear) → AreNamed claims names given → AreAllowed (map Le given) [] steps → Follows claims (rows_made (map Le given) [] steps) marks n places copy

pub follow_more : (steps : List RowStep) (marks : List Bool) (names : List RowStep) (n : ℕ) (places : List ℕ) (copy : List RowStep) (s : RowStep) → IsMarked marks steps → slice_get steps n ≡ Some s → FollowsAll steps marks names n places copy → FollowsAll steps marks names (n + 1) (places ++ length copy ∷ []) (with_needed (mark_at marks n) (renumbered names places s) copy)
follow_more steps marks names n places copy s marked here f = record {
  count = let c = f.count in omega (arith, length_push places (length copy));
  follows = λ claims given named h. by_mark claims given named h (mark_at marks n) refl;
}
  where
    by_mark : (claims : List Claim) (given : List Linear) → AreNamed claims names given → AreAllowed (map Le given) [] steps → (b : Bool) → mark_at marks n ≡ b → Follows claims (rows_made (map Le given) [] steps) marks (n + 1) (places ++ length copy ∷ []) (with_needed b (renumbered names places s) copy)
    by_mark claims given named h false e = follow_unneeded claims (rows_made (map Le given) [] steps) marks n places copy (length copy) f.count e (f.follows claims given named h)
    by_mark claims given named h true e =
        let rows : List PlainRow = rows_made (map Le given) [] steps in
        let row : MakesRow (map Le given) rows n s = makes_row (map Le given) steps n s h here in
        let known : n < length steps = slice_get_within steps n s here in
        let m = step_moved claims names given marks n places copy rows s named (f.follows claims given named h) (omega (arith, length-rows_made (map Le given) [] steps)) (marked.parts n s (omega arith) here e) row.allowed in
        follow_needed claims rows marks n places copy (renumbered names places s) f.count (record { allowed = m.allowed; is = m.is ∙ sym row.is }) (f.follows claims given named h)

none_closes : (claims : List Claim) → ¬ Closes claims []
none_closes claims h = let p = h.absurd_row.positive in absurd (omega (arith, ints))

pub followed : (steps : List RowStep) (marks : List Bool) (names : List RowStep) (places : List ℕ) (copy : List RowStep) → IsMarked marks steps → FollowsAll steps marks names (length steps) places copy → IsLeaf steps names copy
followed [] marks names places copy marked f claims given named h = absurd (none_closes (map Le given) h)
followed (s ∷ steps) marks names places copy marked f claims given named h =
    let follows = f.follows claims given named h.allowed in
    let rows : List PlainRow = rows_made (map Le given) [] (s ∷ steps) in
    let last : last_row rows ≡ row_at rows (length steps) = last_row-at rows (length steps) (omega (arith, length-rows_made (map Le given) [] (s ∷ steps))) in
    let newest = follows.newest (length steps) (omega arith) (marked.last (length steps) (omega arith)) in
    record { allowed = follows.allowed; absurd_row = subst IsAbsurd (last ∙ sym newest) h.absurd_row }
