-- Claims with rows more, seen through their rows.
use Rattle.std.proofs.Common.{ℕ, zero, suc, ◌≡◌, ◌+◌, ◌<◌, List, [], ◌∷◌, ◌++◌, length, get_or, take, map, refl, sym, ◌∙◌, ap, subst, arith, append_assoc}
use Rattle.std.specs.Prelude.{Option, Some, None, slice_get, pos, negsuc}
use Rattle.std.proofs.lemmas.List.{append-nil, length_push, length-map, length-take, map_push, take_more}
use Rattle.carol_formula.specs.Linear.{Linear, scaled, constant_of}
use Rattle.carol_formula.specs.Claim.{Claim, True, Le, Eq}
use Rattle.carol_formula.specs.declared.term.Row.{Row}
use Rattle.carol_cert.specs.PlainRow.{row_of, negated}
use Rattle.carol_cert.specs.Steps.{IsRow, IsEquation, term_of}
use Rattle.carol_cert.specs.declared.step.RowStep.{RowStep}
use Rattle.carol_cert.specs.declared.step.RowStep.TheVariants.{Given, Reversed, Combine, Tighten}
use Rattle.carol_cert.proofs.Gets.{slice_get-appended}
use Rattle.carol_elimination.specs.Due.{rows_at, AreRows}
use Rattle.carol_elimination.specs.Entries.{terms_of}
use Rattle.carol_linear.specs.Names.{IsNamed, AreNamed}
use Rattle.carol_linear.specs.Place.{Shows, with_rows, names_from}

-- ---- names

get_more : (claims : List Claim) (c : Claim) (at : ℕ) → IsRow (slice_get claims at) → slice_get (claims ++ c ∷ []) at ≡ slice_get claims at
get_more [] c at h = absurd h
get_more (d ∷ claims) c zero h = refl
get_more (d ∷ claims) c (suc at) h = get_more claims c at h

equation_row : (o : Option Claim) → IsEquation o → IsRow o
equation_row None h = h
equation_row (Some (Eq t)) h = tt
equation_row (Some c) h = absurd h

named_more : (claims : List Claim) (c : Claim) (name : RowStep) (r : Linear) → IsNamed claims name r → IsNamed (claims ++ c ∷ []) name r
named_more claims c (Given at) r h = subst (λ (o : Option Claim). IsRow o × (row_of r ≡ row_of (term_of o))) (sym (get_more claims c at h.0)) h
named_more claims c (Reversed at) r h = subst (λ (o : Option Claim). IsEquation o × (row_of r ≡ negated (row_of (term_of o)))) (sym (get_more claims c at (equation_row (slice_get claims at) h.0))) h
named_more claims c (Combine a m b n) r h = h
named_more claims c (Tighten a d) r h = h

pub are_named_more : (claims : List Claim) (c : Claim) (names : List RowStep) (rows : List Linear) → AreNamed claims names rows → AreNamed (claims ++ c ∷ []) names rows
are_named_more claims c [] [] h = tt
are_named_more claims c [] (r ∷ rows) h = h
are_named_more claims c (name ∷ names) [] h = h
are_named_more claims c (name ∷ names) (r ∷ rows) h = (named_more claims c name r h.0, are_named_more claims c names rows h.1)

pub are_named_push : (claims : List Claim) (names : List RowStep) (rows : List Linear) (name : RowStep) (r : Linear) → AreNamed claims names rows → IsNamed claims name r → AreNamed claims (names ++ name ∷ []) (rows ++ r ∷ [])
are_named_push claims [] [] name r h last = (last, tt)
are_named_push claims [] (q ∷ rows) name r h last = absurd h
are_named_push claims (n ∷ names) [] name r h last = absurd h
are_named_push claims (n ∷ names) (q ∷ rows) name r h last = (h.0, are_named_push claims names rows name r h.1 last)

pub own_name : (claims : List Claim) (r : Linear) (at : ℕ) → length claims ≡ at → IsNamed (claims ++ Le r ∷ []) (Given at) r
own_name claims r at e = subst (λ (o : Option Claim). IsRow o × (row_of r ≡ row_of (term_of o))) (sym (slice_get-appended claims (Le r) at (sym e))) (tt, refl)

-- ---- one row more

plain_push : (claims : List Claim) (r : Linear) → AreRows claims → AreRows (claims ++ Le r ∷ [])
plain_push [] r h = tt
plain_push (True ∷ claims) r h = plain_push claims r h
plain_push (Le t ∷ claims) r h = plain_push claims r h
plain_push (Eq t ∷ claims) r h = plain_push claims r h
plain_push (c ∷ claims) r h = absurd h

pub rows_at-push : (claims : List Claim) (r : Linear) → rows_at (claims ++ Le r ∷ []) ≡ rows_at claims ++ r ∷ []
rows_at-push [] r = refl
rows_at-push (Le t ∷ claims) r = ap (λ (rows : List Linear). t ∷ rows) (rows_at-push claims r)
rows_at-push (Eq t ∷ claims) r = ap (λ (rows : List Linear). t ∷ scaled (negsuc 0) t ∷ rows) (rows_at-push claims r)
rows_at-push (c ∷ claims) r = rows_at-push claims r

shows_more : (claims : List Claim) (rows : List Linear) (names : List RowStep) (n : ℕ) (r : Linear) → Shows claims rows names n → Shows (claims ++ Le r ∷ []) (rows ++ r ∷ []) (names ++ Given n ∷ []) (n + 1)
shows_more claims rows names n r h = record {
  named = are_named_push (claims ++ Le r ∷ []) names rows (Given n) r (are_named_more claims (Le r) names rows h.named) (own_name claims r n h.counted);
  plain = plain_push claims r h.plain;
  same = rows_at-push claims r ∙ ap (λ (rs : List Linear). rs ++ r ∷ []) h.same;
  counted = length_push claims (Le r) ∙ ap (λ (k : ℕ). k + 1) h.counted;
}

-- ---- rows more

pub shows_same : (claims : List Claim) (rows rows' : List Linear) (names names' : List RowStep) (n n' : ℕ) → rows ≡ rows' → names ≡ names' → n ≡ n' → Shows claims rows names n → Shows claims rows' names' n'
shows_same claims rows rows' names names' n n' r e k h =
    subst (λ (rs : List Linear). Shows claims rs names' n') r (subst (λ (ns : List RowStep). Shows claims rows ns n') e (subst (Shows claims rows names) k h))

pub shows_on : (claims : List Claim) (rows : List Linear) (names : List RowStep) (n : ℕ) (more : List Linear) → Shows claims rows names n → Shows (with_rows claims more) (rows ++ more) (names ++ names_from n more) (n + length more)
shows_on claims rows names n [] h = shows_same claims rows (rows ++ []) names (names ++ []) n (n + 0) (sym (append-nil rows)) (sym (append-nil names)) (omega arith) h
shows_on claims rows names n (r ∷ more) h =
    shows_same (with_rows (claims ++ Le r ∷ []) more) ((rows ++ r ∷ []) ++ more) (rows ++ r ∷ more) ((names ++ Given n ∷ []) ++ names_from (n + 1) more) (names ++ Given n ∷ names_from (n + 1) more) (n + 1 + length more) (n + length (r ∷ more))
    (append_assoc rows (r ∷ []) more) (append_assoc names (Given n ∷ []) (names_from (n + 1) more)) (omega arith)
    (shows_on (claims ++ Le r ∷ []) (rows ++ r ∷ []) (names ++ Given n ∷ []) (n + 1) more (shows_more claims rows names n r h))

pub with_rows-push : (claims : List Claim) (rows : List Linear) (r : Linear) → with_rows claims (rows ++ r ∷ []) ≡ with_rows claims rows ++ Le r ∷ []
with_rows-push claims [] r = refl
with_rows-push claims (q ∷ rows) r = with_rows-push (claims ++ Le q ∷ []) rows r

pub with_rows-map : (claims : List Claim) (rows : List Linear) → with_rows claims rows ≡ claims ++ map Le rows
with_rows-map claims [] = sym (append-nil claims)
with_rows-map claims (r ∷ rows) = with_rows-map (claims ++ Le r ∷ []) rows ∙ append_assoc claims (Le r ∷ []) (map Le rows)

pub names_from-push : (n : ℕ) (rows : List Linear) (r : Linear) → names_from n (rows ++ r ∷ []) ≡ names_from n rows ++ Given (n + length rows) ∷ []
names_from-push n [] r = ap (λ (k : ℕ). Given k ∷ []) (omega arith)
names_from-push n (q ∷ rows) r =
    ap (λ (names : List RowStep). Given n ∷ names) (names_from-push (n + 1) rows r ∙ ap (λ (k : ℕ). names_from (n + 1) rows ++ Given k ∷ []) (omega arith))

-- ---- rows that are claims themselves

pub shows_own : (rows : List Linear) → Shows (map Le rows) rows (names_from 0 rows) (length rows)
shows_own rows =
    subst (λ (claims : List Claim). Shows claims rows (names_from 0 rows) (length rows)) (with_rows-map [] rows)
    (shows_same (with_rows [] rows) rows rows (names_from 0 rows) (names_from 0 rows) (0 + length rows) (length rows) refl refl (omega arith)
    (shows_on [] [] [] 0 rows (record { named = tt; plain = tt; same = refl; counted = refl })))

pub names_from-take : (rows : List Row) (i : ℕ) → i < length rows → names_from 0 (terms_of (take (i + 1) rows)) ≡ names_from 0 (terms_of (take i rows)) ++ Given i ∷ []
names_from-take rows i h =
    let row : Row = record { 0 = constant_of (pos 0) } in
    let term = λ (r : Row). r.0 in
    let n : 0 + length (terms_of (take i rows)) ≡ i = omega (arith, h, length-map (take i rows) term, length-take i rows) in
    ap (λ (rs : List Row). names_from 0 (terms_of rs)) (take_more rows i row h)
    ∙ ap (names_from 0) (map_push term (take i rows) (get_or rows i row))
    ∙ names_from-push 0 (terms_of (take i rows)) (get_or rows i row).0
    ∙ ap (λ (k : ℕ). names_from 0 (terms_of (take i rows)) ++ Given k ∷ []) n
