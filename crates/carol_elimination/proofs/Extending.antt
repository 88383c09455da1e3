-- A row more, by what becomes of it.
use Rattle.std.proofs.Common.{ℕ, zero, suc, ◌<◌, ◌≡◌, List, [], ◌∷◌, ◌++◌, map, length, get_or, set, append-nil, append_assoc, refl, sym, ◌∙◌, ap, subst, arith, inl, inr}
use Rattle.std.specs.Prelude.{◌⊎◌, ◌≤ℤ◌, ◌<ℤ◌}
use Rattle.std.proofs.lemmas.Int.{ints}
use Rattle.std.proofs.lemmas.List.{length-map}
use Rattle.carol_cert.specs.declared.step.RowStep.{RowStep}
use Rattle.carol_elimination.specs.Entries.{row_in, AreInside, rows_in}
use Rattle.carol_formula.specs.Linear.{Linear}
use Rattle.carol_elimination.specs.Stage.{Among}
use Rattle.carol_elimination.specs.Stands.{IsIdle, Dominates, IsDominated, Stand}
use Rattle.carol_elimination.specs.Derived.{row_at}
use Rattle.carol_elimination.proofs.Rows.{among_left, among_right, among_cases}
use Rattle.carol_elimination.proofs.Standing.{dominates_refl, dominates_trans}
use Rattle.carol_elimination.specs.Extends.{Extend, IsVerdict, IsKnown, placed}
use Rattle.carol_elimination.specs.declared.stage.Verdict.{Verdict}
use Rattle.carol_elimination.specs.declared.stage.Verdict.TheVariants.{LeftOut, Replaces, New}
use Rattle.carol_elimination.specs.Entries.{Grow}
use Rattle.carol_elimination.proofs.Growing.{rows_in_grow}

only : (q r : Linear) → Among q (r ∷ []) → q ≡ r
only q r h = elim h [ inl e ↦ e | inr k ↦ absurd k ]

-- the row isn't needed
pub extend_left_out : (rows : List Linear) (r : Linear) → IsIdle r ⊎ IsDominated rows r → Extend rows rows (r ∷ [])
extend_left_out rows r h = record {
  extends = λ all stand. record {
    chosen = λ q k. among_left q all (r ∷ []) (stand.chosen q k);
    left_out = λ q k. elim (among_cases q all (r ∷ []) k) [
      | inl before ↦ stand.left_out q before
      | inr last ↦ subst (λ (s : Linear). IsIdle s ⊎ IsDominated rows s) (sym (only q r last)) h
    ];
  };
}

dominated_more : (rows : List Linear) (s q : Linear) → IsDominated rows q → IsDominated (rows ++ s ∷ []) q
dominated_more rows s q d = record { by = d.by; among = among_left d.by rows (s ∷ []) d.among; dominates = d.dominates }

-- the row is added
pub extend_new : (rows : List Linear) (r : Linear) → Extend rows (rows ++ r ∷ []) (r ∷ [])
extend_new rows r = record {
  extends = λ all stand. record {
    chosen = λ q k. elim (among_cases q rows (r ∷ []) k) [
      | inl before ↦ among_left q all (r ∷ []) (stand.chosen q before)
      | inr last ↦ among_right q all (r ∷ []) last
    ];
    left_out = λ q k. elim (among_cases q all (r ∷ []) k) [
      | inl before ↦ elim (stand.left_out q before) [ inl idle ↦ inl idle | inr d ↦ inr (dominated_more rows r q d) ]
      | inr last ↦ inr (record { by = r; among = among_right r rows (r ∷ []) (inl refl); dominates = subst (Dominates r) (sym (only q r last)) (dominates_refl r) })
    ];
  };
}

-- ---- a row in place of another

among_set : (q r : Linear) (rows : List Linear) (i : ℕ) → Among q (set rows i r) → (q ≡ r) ⊎ Among q rows
among_set q r [] i h = inr h
among_set q r (s ∷ rows) zero h = elim h [ inl e ↦ inl e | inr k ↦ inr (inr k) ]
among_set q r (s ∷ rows) (suc i) h = elim h [
  | inl e ↦ inr (inl e)
  | inr k ↦ elim (among_set q r rows i k) [ inl e ↦ inl e | inr m ↦ inr (inr m) ]
]

set_among : (r : Linear) (rows : List Linear) (i : ℕ) → i < length rows → Among r (set rows i r)
set_among r [] i h = absurd (omega arith)
set_among r (s ∷ rows) zero h = inl refl
set_among r (s ∷ rows) (suc i) h = inr (set_among r rows i (omega arith))

still_among : (q r : Linear) (rows : List Linear) (i : ℕ) → Among q rows → (q ≡ row_at rows i) ⊎ Among q (set rows i r)
still_among q r [] i h = absurd h
still_among q r (s ∷ rows) zero h = elim h [ inl e ↦ inl e | inr k ↦ inr (inr k) ]
still_among q r (s ∷ rows) (suc i) h = elim h [
  | inl e ↦ inr (inl e)
  | inr k ↦ elim (still_among q r rows i k) [ inl e ↦ inl e | inr m ↦ inr (inr m) ]
]

dominated_still : (rows : List Linear) (i : ℕ) (r q : Linear) → i < length rows → Dominates r (row_at rows i) → IsDominated rows q → IsDominated (set rows i r) q
dominated_still rows i r q h tighter d = elim (still_among d.by r rows i d.among) [
  | inl e ↦ record { by = r; among = set_among r rows i h; dominates = dominates_trans r d.by q (subst (Dominates r) (sym e) tighter) d.dominates }
  | inr k ↦ record { by = d.by; among = k; dominates = d.dominates }
]

pub extend_replaced : (rows : List Linear) (i : ℕ) (r : Linear) → i < length rows → Dominates r (row_at rows i) → Extend rows (set rows i r) (r ∷ [])
extend_replaced rows i r h tighter = record {
  extends = λ all stand. record {
    chosen = λ q k. elim (among_set q r rows i k) [
      | inl e ↦ among_right q all (r ∷ []) (inl e)
      | inr before ↦ among_left q all (r ∷ []) (stand.chosen q before)
    ];
    left_out = λ q k. elim (among_cases q all (r ∷ []) k) [
      | inl before ↦ elim (stand.left_out q before) [ inl idle ↦ inl idle | inr d ↦ inr (dominated_still rows i r q h tighter d) ]
      | inr last ↦ inr (record { by = r; among = set_among r rows i h; dominates = subst (Dominates r) (sym (only q r last)) (dominates_refl r) })
    ];
  };
}

-- ---- a row beside the one at a place

pub inside_at : (entries : List (RowStep × Linear)) (ks : List ℕ) (i k : ℕ) → AreInside entries ks → i < length ks → k ≡ get_or ks i k → k < length entries
inside_at entries [] i k h l e = absurd (omega arith)
inside_at entries (q ∷ ks) zero k h l e = omega (arith, h.0, e)
inside_at entries (q ∷ ks) (suc i) k h l e = inside_at entries ks i k h.1 (omega arith) e

pub rows_in_at : (entries : List (RowStep × Linear)) (ks : List ℕ) (i k : ℕ) → i < length ks → k ≡ get_or ks i k → row_at (rows_in entries ks) i ≡ row_in entries k
rows_in_at entries [] i k l e = absurd (omega arith)
rows_in_at entries (q ∷ ks) zero k l e = ap (row_in entries) (sym e)
rows_in_at entries (q ∷ ks) (suc i) k l e = rows_in_at entries ks i k (omega arith) e

pub among_at : (rows : List Linear) (i : ℕ) → i < length rows → Among (row_at rows i) rows
among_at [] i l = absurd (omega arith)
among_at (r ∷ rows) zero l = inl refl
among_at (r ∷ rows) (suc i) l = inr (among_at rows i (omega arith))

pub length-rows_in : (entries : List (RowStep × Linear)) (ks : List ℕ) → length (rows_in entries ks) ≡ length ks
length-rows_in entries ks = length-map ks (row_in entries)

dominated_at : (entries : List (RowStep × Linear)) (ks : List ℕ) (i k : ℕ) (r o : Linear) → i < length ks → k ≡ get_or ks i k → o ≡ row_in entries k → r.pairs ≡ o.pairs → r.rest ≤ℤ o.rest → IsDominated (rows_in entries ks) r
dominated_at entries ks i k r o l e is same tighter = record {
  by = row_at (rows_in entries ks) i;
  among = among_at (rows_in entries ks) i (omega (arith, length-rows_in entries ks));
  dominates = subst (λ (s : Linear). Dominates s r) (is ∙ sym (rows_in_at entries ks i k l e)) (record { same = same; tighter = tighter });
}

pub left_out_at : (entries : List (RowStep × Linear)) (ks : List ℕ) (i k : ℕ) (r o : Linear) → i < length ks → k ≡ get_or ks i k → o ≡ row_in entries k → r.pairs ≡ o.pairs → r.rest ≤ℤ o.rest → IsIdle r ⊎ IsDominated (rows_in entries ks) r
left_out_at entries ks i k r o l e is same tighter = inr (dominated_at entries ks i k r o l e is same tighter)

pub tighter_at : (entries : List (RowStep × Linear)) (ks : List ℕ) (i k : ℕ) (r o : Linear) → i < length ks → k ≡ get_or ks i k → o ≡ row_in entries k → r.pairs ≡ o.pairs → o.rest <ℤ r.rest → (i < length (rows_in entries ks)) × Dominates r (row_at (rows_in entries ks) i)
tighter_at entries ks i k r o l e is same tighter = (
  omega (arith, length-rows_in entries ks),
  subst (Dominates r) (is ∙ sym (rows_in_at entries ks i k l e)) (record { same = sym same; tighter = omega (arith, ints) }),
)

-- ---- the numbers with one more

pub map-push : {A B : Type 0} (g : A → B) (xs : List A) (x : A) → map g (xs ++ x ∷ []) ≡ map g xs ++ g x ∷ []
map-push g [] x = refl
map-push g (y ∷ ys) x = ap (λ zs. g y ∷ zs) (map-push g ys x)

map-set : {A B : Type 0} (g : A → B) (xs : List A) (i : ℕ) (x : A) → map g (set xs i x) ≡ set (map g xs) i (g x)
map-set g [] i x = refl
map-set g (y ∷ ys) zero x = refl
map-set g (y ∷ ys) (suc i) x = ap (λ zs. g y ∷ zs) (map-set g ys i x)

pub inside_push : (entries : List (RowStep × Linear)) (ks : List ℕ) (k : ℕ) → AreInside entries ks → k < length entries → AreInside entries (ks ++ k ∷ [])
inside_push entries [] k h l = (l, tt)
inside_push entries (q ∷ ks) k h l = (h.0, inside_push entries ks k h.1 l)

inside_set : (entries : List (RowStep × Linear)) (ks : List ℕ) (i k : ℕ) → AreInside entries ks → k < length entries → AreInside entries (set ks i k)
inside_set entries [] i k h l = tt
inside_set entries (q ∷ ks) zero k h l = (l, h.1)
inside_set entries (q ∷ ks) (suc i) k h l = (h.0, inside_set entries ks i k h.1 l)

pub placed_inside : (entries : List (RowStep × Linear)) (ks : List ℕ) (v : Verdict) (at : ℕ) → AreInside entries ks → at < length entries → AreInside entries (placed v at ks)
placed_inside entries ks LeftOut at h l = h
placed_inside entries ks (Replaces i) at h l = inside_set entries ks i at h l
placed_inside entries ks New at h l = inside_push entries ks at h l

pub placed_extends : (entries : List (RowStep × Linear)) (ks : List ℕ) (v : Verdict) (at : ℕ) → IsVerdict (rows_in entries ks) (row_in entries at) v → Extend (rows_in entries ks) (rows_in entries (placed v at ks)) (row_in entries at ∷ [])
placed_extends entries ks LeftOut at h = extend_left_out (rows_in entries ks) (row_in entries at) h
placed_extends entries ks (Replaces i) at h = subst (λ (rs : List Linear). Extend (rows_in entries ks) rs (row_in entries at ∷ [])) (sym (map-set (row_in entries) ks i at)) (extend_replaced (rows_in entries ks) i (row_in entries at) h.0 h.1)
placed_extends entries ks New at h = subst (λ (rs : List Linear). Extend (rows_in entries ks) rs (row_in entries at ∷ [])) (sym (map-push (row_in entries) ks at)) (extend_new (rows_in entries ks) (row_in entries at))

pub known_verdict : (entries : List (RowStep × Linear)) (ks : List ℕ) (r : Linear) (v : Verdict) → IsVerdict (rows_in entries ks) r v → IsKnown v (length ks)
known_verdict entries ks r LeftOut h = tt
known_verdict entries ks r (Replaces i) h = omega (arith, h.0, length-rows_in entries ks)
known_verdict entries ks r New h = tt

-- a verdict in the words of more rows, where the row stands among these
pub placed_later : (old new : List (RowStep × Linear)) (ks : List ℕ) (v : Verdict) (at : ℕ) (r : Linear) → Grow old new → AreInside old ks → IsVerdict (rows_in old ks) r v → row_in new at ≡ r → Extend (rows_in old ks) (rows_in new (placed v at ks)) (r ∷ [])
placed_later old new ks v at r grow inside verdict is =
    subst (λ (s : Linear). Extend (rows_in old ks) (rows_in new (placed v at ks)) (s ∷ [])) is
    (subst (λ (rs : List Linear). Extend rs (rows_in new (placed v at ks)) (row_in new at ∷ [])) same
    (placed_extends new ks v at (subst (λ (s : Linear). IsVerdict (rows_in new ks) s v) (sym is) (subst (λ (rs : List Linear). IsVerdict rs r v) (sym same) verdict))))
  where
    same : rows_in new ks ≡ rows_in old ks
    same = rows_in_grow old new ks grow inside

-- ---- one after another

pub extend_none : (rows : List Linear) → Extend rows rows []
extend_none rows = record { extends = λ all stand. subst (Stand rows) (sym (append-nil all)) stand }

pub extend_trans : (old some new rs ss : List Linear) → Extend old some rs → Extend some new ss → Extend old new (rs ++ ss)
extend_trans old some new rs ss g h = record { extends = λ all stand. subst (Stand new) (append_assoc all rs ss) (h.extends (all ++ rs) (g.extends all stand)) }
