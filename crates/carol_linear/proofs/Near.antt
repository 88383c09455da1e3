-- The rows near a place, with a branch more and with a branch less.
use Rattle.std.proofs.Common.{ℕ, zero, suc, ◌≡◌, ◌+◌, ◌-◌, ◌<◌, List, [], ◌∷◌, ◌++◌, length, take, get_or, set, refl, sym, ◌∙◌, ap, subst, arith, append_assoc}
use Rattle.std.specs.Prelude.{Option, Some, None, pos}
use Rattle.std.proofs.lemmas.List.{append-nil, length_push, length-map, take-map}
use Rattle.std.proofs.Math.Seq.{take-append_seam}
use Rattle.carol_formula.specs.Linear.{Linear, constant_of}
use Rattle.carol_formula.specs.Claim.{Claim, Le}
use Rattle.carol_formula.specs.declared.term.Row.{Row}
use Rattle.carol_cert.specs.declared.step.RowStep.{RowStep}
use Rattle.carol_cert.specs.declared.step.RowStep.TheVariants.{Given}
use Rattle.carol_elimination.specs.Stands.{Dominates, Stand}
use Rattle.carol_elimination.specs.Derived.{row_at}
use Rattle.carol_linear.specs.Names.{IsNamed, AreNamed}
use Rattle.carol_elimination.specs.Entries.{terms_of}
use Rattle.carol_elimination.proofs.Eliminating.{given_row}
use Rattle.carol_elimination.proofs.Extending.{extend_new, extend_replaced}
use Rattle.carol_linear.specs.Place.{with_rows}
use Rattle.carol_linear.specs.Path.{frame_row, frame_rows}
use Rattle.carol_linear.specs.Near.{row_with, name_with, Covers, Adds, rows_back, names_back, near_rows, near_names, AreCovering}
use Rattle.carol_linear.specs.declared.branch.Frame.{Frame}
use Rattle.carol_linear.specs.declared.place.Covered.{Covered}
use Rattle.carol_linear.specs.declared.place.Place.{Place}
use Rattle.carol_linear.proofs.Places.{are_named_more, are_named_push, own_name}

-- ---- a branch more

pub near_rows-push : (rows : List Linear) (fs : List Frame) (f : Frame) → near_rows rows (fs ++ f ∷ []) ≡ row_with f.covered (frame_row f) (near_rows rows fs)
near_rows-push rows [] f = refl
near_rows-push rows (g ∷ fs) f = near_rows-push (row_with g.covered (frame_row g) rows) fs f

pub near_names-push : (names : List RowStep) (n : ℕ) (fs : List Frame) (f : Frame) → near_names names n (fs ++ f ∷ []) ≡ name_with f.covered (Given (n + length fs)) (near_names names n fs)
near_names-push names n [] f = ap (λ (k : ℕ). name_with f.covered (Given k) names) (omega arith)
near_names-push names n (g ∷ fs) f =
    near_names-push (name_with g.covered (Given n) names) (n + 1) fs f
    ∙ ap (λ (k : ℕ). name_with f.covered (Given k) (near_names (name_with g.covered (Given n) names) (n + 1) fs)) (omega arith)

pub covering_push : (rows : List Linear) (names : List RowStep) (n : ℕ) (fs : List Frame) (f : Frame) → AreCovering rows names n fs → Covers (near_rows rows fs) (near_names names n fs) (frame_row f) f.covered → AreCovering rows names n (fs ++ f ∷ [])
covering_push rows names n [] f covering last = (last, tt)
covering_push rows names n (g ∷ fs) f covering last = (covering.0, covering_push (row_with g.covered (frame_row g) rows) (name_with g.covered (Given n) names) (n + 1) fs f covering.1 last)

pub covering_front : (rows : List Linear) (names : List RowStep) (n : ℕ) (fs : List Frame) (f : Frame) → AreCovering rows names n (fs ++ f ∷ []) → AreCovering rows names n fs
covering_front rows names n [] f covering = tt
covering_front rows names n (g ∷ fs) f covering = (covering.0, covering_front (row_with g.covered (frame_row g) rows) (name_with g.covered (Given n) names) (n + 1) fs f covering.1)

pub covering_last : (rows : List Linear) (names : List RowStep) (n : ℕ) (fs : List Frame) (f : Frame) → AreCovering rows names n (fs ++ f ∷ []) → Covers (near_rows rows fs) (near_names names n fs) (frame_row f) f.covered
covering_last rows names n [] f covering = covering.0
covering_last rows names n (g ∷ fs) f covering = covering_last (row_with g.covered (frame_row g) rows) (name_with g.covered (Given n) names) (n + 1) fs f covering.1

-- ---- a branch less

front : {A : Type 0} (xs ys : List A) (y : A) → xs ≡ ys ++ y ∷ [] → take (length xs - 1) xs ≡ ys
front {A} xs ys y e =
    let n : length (ys ++ y ∷ []) - 1 ≡ length ys = omega (arith, length_push ys y) in
    ap (λ (l : List A). take (length l - 1) l) e ∙ ap (λ (k : ℕ). take k (ys ++ y ∷ [])) n ∙ take-append_seam ys (y ∷ [])

-- what is put back undoes what was put there
set_back : {A : Type 0} (xs : List A) (i : ℕ) (y z d : A) → i < length xs → get_or xs i d ≡ z → set (set xs i y) i z ≡ xs
set_back [] i y z d h e = absurd (omega arith)
set_back {A} (x ∷ xs) zero y z d h e = ap (λ (w : A). w ∷ xs) (sym e)
set_back {A} (x ∷ xs) (suc i) y z d h e = ap (λ (l : List A). x ∷ l) (set_back xs i y z d (omega arith) e)

terms_of-set : (rows : List Row) (i : ℕ) (r : Row) → terms_of (set rows i r) ≡ set (terms_of rows) i r.0
terms_of-set [] i r = refl
terms_of-set (q ∷ rows) zero r = refl
terms_of-set (q ∷ rows) (suc i) r = ap (λ (ts : List Linear). q.0 ∷ ts) (terms_of-set rows i r)

pub rows_back-with : (o : Option Covered) (rows : List Row) (before : List Linear) (names : List RowStep) (r : Linear) → Covers before names r o → terms_of rows ≡ row_with o r before → terms_of (rows_back o rows) ≡ before
rows_back-with None rows before names r h e =
    sym (take-map (λ (q : Row). q.0) (length rows - 1) rows)
    ∙ ap (λ (k : ℕ). take (k - 1) (terms_of rows)) (sym (length-map rows (λ (q : Row). q.0)))
    ∙ front (terms_of rows) before r e
rows_back-with (Some c) rows before names r h e =
    terms_of-set rows c.place c.row
    ∙ ap (λ (ts : List Linear). set ts c.place c.row.0) e
    ∙ set_back before c.place r c.row.0 (constant_of (pos 0)) h.row_stands h.row

pub names_back-with : (o : Option Covered) (names before : List RowStep) (rows : List Linear) (r : Linear) (name : RowStep) → Covers rows before r o → names ≡ name_with o name before → names_back o names ≡ before
names_back-with None names before rows r name h e = front names before name e
names_back-with (Some c) names before rows r name h e = ap (λ (ns : List RowStep). set ns c.place c.name) e ∙ set_back before c.place name c.name c.name h.name_stands h.name

-- a row put in place of one that it makes needless
pub exchanged : (old new : Place) (i : ℕ) (row was : Row) (name was_name : RowStep) → new.rows.items ≡ set old.rows.items i row → new.names.items ≡ set old.names.items i name → i < length old.rows.items → i < length old.names.items → was ≡ get_or old.rows.items i was → was_name ≡ get_or old.names.items i was_name → Dominates row.0 (row_at (terms_of old.rows.items) i) → Adds old new row.0 name (Some (record { place = i; row = was; name = was_name }))
exchanged old new i row was name was_name rows names known named is is_name tighter =
    let there : row_at (terms_of old.rows.items) i ≡ was.0 = given_row old.rows.items i was known is in
    record {
      rows = ap terms_of rows ∙ terms_of-set old.rows.items i row;
      names = names;
      covers = record {
        row_stands = omega (arith, known, length-map old.rows.items (λ (r : Row). r.0));
        name_stands = named;
        row = there;
        name = sym is_name;
        tighter = subst (Dominates row.0) there tighter;
      };
    }

-- ---- names

are_named_set : (claims : List Claim) (names : List RowStep) (rows : List Linear) (i : ℕ) (name : RowStep) (r : Linear) → AreNamed claims names rows → IsNamed claims name r → AreNamed claims (set names i name) (set rows i r)
are_named_set claims [] [] i name r h one = tt
are_named_set claims [] (q ∷ rows) i name r h one = absurd h
are_named_set claims (n ∷ names) [] i name r h one = absurd h
are_named_set claims (n ∷ names) (q ∷ rows) zero name r h one = (one, h.1)
are_named_set claims (n ∷ names) (q ∷ rows) (suc i) name r h one = (h.0, are_named_set claims names rows i name r h.1 one)

named_with : (o : Option Covered) (claims : List Claim) (names : List RowStep) (rows : List Linear) (n : ℕ) (r : Linear) → AreNamed claims names rows → length claims ≡ n → AreNamed (claims ++ Le r ∷ []) (name_with o (Given n) names) (row_with o r rows)
named_with None claims names rows n r h e = are_named_push (claims ++ Le r ∷ []) names rows (Given n) r (are_named_more claims (Le r) names rows h) (own_name claims r n e)
named_with (Some c) claims names rows n r h e = are_named_set (claims ++ Le r ∷ []) names rows c.place (Given n) r (are_named_more claims (Le r) names rows h) (own_name claims r n e)

pub near_named : (claims : List Claim) (names : List RowStep) (rows : List Linear) (n : ℕ) (fs : List Frame) → AreNamed claims names rows → length claims ≡ n → AreNamed (with_rows claims (frame_rows fs)) (near_names names n fs) (near_rows rows fs)
near_named claims names rows n [] h e = h
near_named claims names rows n (f ∷ fs) h e =
    near_named (claims ++ Le (frame_row f) ∷ []) (name_with f.covered (Given n) names) (row_with f.covered (frame_row f) rows) (n + 1) fs (named_with f.covered claims names rows n (frame_row f) h e) (length_push claims (Le (frame_row f)) ∙ ap (λ (k : ℕ). k + 1) e)

-- ---- the rows stand for all

stand_with : (o : Option Covered) (rows all : List Linear) (names : List RowStep) (r : Linear) → Covers rows names r o → Stand rows all → Stand (row_with o r rows) (all ++ r ∷ [])
stand_with None rows all names r h stand = (extend_new rows r).extends all stand
stand_with (Some c) rows all names r h stand = (extend_replaced rows c.place r h.row_stands (subst (Dominates r) (sym h.row) h.tighter)).extends all stand

pub near_stand : (rows all : List Linear) (names : List RowStep) (n : ℕ) (fs : List Frame) → AreCovering rows names n fs → Stand rows all → Stand (near_rows rows fs) (all ++ frame_rows fs)
near_stand rows all names n [] covering stand = subst (Stand rows) (sym (append-nil all)) stand
near_stand rows all names n (f ∷ fs) covering stand =
    subst (Stand (near_rows rows (f ∷ fs))) (append_assoc all (frame_row f ∷ []) (frame_rows fs))
    (near_stand (row_with f.covered (frame_row f) rows) (all ++ frame_row f ∷ []) (name_with f.covered (Given n) names) (n + 1) fs covering.1 (stand_with f.covered rows all names (frame_row f) covering.0 stand))
