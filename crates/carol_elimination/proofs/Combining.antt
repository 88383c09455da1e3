-- Loops over the rows of a stage.
use Rattle.std.proofs.Common.{ℕ, zero, suc, ◌+◌, ◌<◌, ◌≡◌, ◌≢◌, Bool, true, false, cond, List, [], ◌∷◌, ◌++◌, length, get_or, take, append-nil, append_assoc, refl, sym, ◌∙◌, ap, subst, arith, inl, inr}
use Rattle.std.specs.Prelude.{flat_map, pos, neg_ℤ}
use Rattle.std.specs.List.{filter}
use Rattle.std.proofs.lemmas.Bool.{false≢true}
use Rattle.std.proofs.lemmas.List.{take_more}
use Rattle.std.proofs.lemmas.List.Elements.{filter-append}
use Rattle.carol_formula.specs.Linear.{Linear}
use Rattle.carol_cert.specs.declared.step.RowStep.{RowStep}
use Rattle.carol_elimination.specs.Tightened.{tightened}
use Rattle.carol_elimination.specs.Stage.{Among, factor_of, is_positive, is_upper, is_lower, least, combinations, without, uppers, lowers, next}
use Rattle.carol_elimination.specs.Derived.{IsPair}
use Rattle.carol_elimination.specs.Free.{IsFree}
use Rattle.carol_elimination.proofs.Rows.{filter_among}
use Rattle.carol_elimination.specs.Entries.{row_in, AreInside, rows_in, Grow}
use Rattle.carol_elimination.specs.Extends.{Extend}
use Rattle.carol_elimination.specs.Sides.{AreAllPairs, KeepDerived}
use Rattle.carol_elimination.specs.Stands.{Stand}
use Rattle.carol_elimination.proofs.Standing.{stand_refl}
use Rattle.carol_elimination.proofs.Growing.{rows_in_grow}
use Rattle.carol_elimination.proofs.Extending.{map-push, extend_trans}

-- ---- one row more

pub rows_in_more : (entries : List (RowStep × Linear)) (ks : List ℕ) (i : ℕ) → i < length ks → rows_in entries (take (i + 1) ks) ≡ rows_in entries (take i ks) ++ row_in entries (get_or ks i 0) ∷ []
rows_in_more entries ks i h = ap (rows_in entries) (take_more ks i 0 h) ∙ map-push (row_in entries) (take i ks) (get_or ks i 0)

pub inside_next : (entries : List (RowStep × Linear)) (ks : List ℕ) (i : ℕ) → AreInside entries ks → i < length ks → get_or ks i 0 < length entries
inside_next entries [] i h l = absurd (omega arith)
inside_next entries (q ∷ ks) zero h l = h.0
inside_next entries (q ∷ ks) (suc i) h l = inside_next entries ks i h.1 (omega arith)

filter_more : (p : Linear → Bool) (rs : List Linear) (r : Linear) (b : Bool) → p r ≡ b → filter p (rs ++ r ∷ []) ≡ filter p rs ++ cond b (r ∷ []) []
filter_more p rs r b e = filter-append p rs (r ∷ []) ∙ ap (λ (c : Bool). filter p rs ++ cond c (r ∷ []) []) e

pub selected_more : (p : Linear → Bool) (entries : List (RowStep × Linear)) (ks sel : List ℕ) (i : ℕ) → i < length ks → rows_in entries sel ≡ filter p (rows_in entries (take i ks)) → p (row_in entries (get_or ks i 0)) ≡ true → rows_in entries (sel ++ get_or ks i 0 ∷ []) ≡ filter p (rows_in entries (take (i + 1) ks))
selected_more p entries ks sel i h e t =
    map-push (row_in entries) sel (get_or ks i 0) ∙ ap (λ (rs : List Linear). rs ++ row_in entries (get_or ks i 0) ∷ []) e
    ∙ sym (ap (filter p) (rows_in_more entries ks i h) ∙ filter_more p (rows_in entries (take i ks)) (row_in entries (get_or ks i 0)) true t)

pub selected_same : (p : Linear → Bool) (entries : List (RowStep × Linear)) (ks sel : List ℕ) (i : ℕ) → i < length ks → rows_in entries sel ≡ filter p (rows_in entries (take i ks)) → p (row_in entries (get_or ks i 0)) ≡ false → rows_in entries sel ≡ filter p (rows_in entries (take (i + 1) ks))
selected_same p entries ks sel i h e t =
    e ∙ sym (append-nil (filter p (rows_in entries (take i ks))))
    ∙ sym (ap (filter p) (rows_in_more entries ks i h) ∙ filter_more p (rows_in entries (take i ks)) (row_in entries (get_or ks i 0)) false t)

-- ---- combinations

pub combinations_more : (x : ℕ) (u l : Linear) (below : List Linear) → combinations x (below ++ l ∷ []) u ≡ combinations x below u ++ tightened (least x u l) ∷ []
combinations_more x u l below = map-push (λ s. tightened (least x u s)) below l

pub flat_map_more : (g : Linear → List Linear) (us : List Linear) (u : Linear) → flat_map g (us ++ u ∷ []) ≡ flat_map g us ++ g u
flat_map_more g [] u = append-nil (g u)
flat_map_more g (v ∷ us) u = ap (λ rs. g v ++ rs) (flat_map_more g us u) ∙ sym (append_assoc (g v) (flat_map g us) (g u))

-- ---- pairs of rows

upper_stands : (x : ℕ) (r : Linear) → is_upper x r ≡ true → factor_of x r ≢ pos 0
upper_stands x r h e = false≢true (sym (ap is_positive e) ∙ h)

lower_stands : (x : ℕ) (r : Linear) → is_lower x r ≡ true → factor_of x r ≢ pos 0
lower_stands x r h e = false≢true (sym (ap (λ z. is_positive (neg_ℤ z)) e) ∙ h)

pub all_pairs : (x : ℕ) (rows : List Linear) → ((v : ℕ) → v < x → IsFree v rows) → AreAllPairs x (uppers x rows) (lowers x rows)
all_pairs x rows free u hu l hl =
    let above = filter_among (is_upper x) u rows hu in
    let below = filter_among (is_lower x) l rows hl in
    record {
      first = record { stands = upper_stands x u above.1; lowest = λ v h. free v h u above.0 };
      second = record { stands = lower_stands x l below.1; lowest = λ v h. free v h l below.0 };
      upper = above.1;
      lower = below.1;
    }

pub among_next : (entries : List (RowStep × Linear)) (ks : List ℕ) (i : ℕ) → i < length ks → Among (row_in entries (get_or ks i 0)) (rows_in entries ks)
among_next entries [] i l = absurd (omega arith)
among_next entries (q ∷ ks) zero l = inl refl
among_next entries (q ∷ ks) (suc i) l = inr (among_next entries ks i (omega arith))

-- ---- the steps of the loops

pub kept_more : (entries : List (RowStep × Linear)) (ks : List ℕ) (i : ℕ) (start some more : List Linear) → i < length ks → Extend start some (rows_in entries (take i ks)) → Extend some more (row_in entries (get_or ks i 0) ∷ []) → Extend start more (rows_in entries (take (i + 1) ks))
kept_more entries ks i start some more h g e = subst (Extend start more) (sym (rows_in_more entries ks i h)) (extend_trans start some more (rows_in entries (take i ks)) (row_in entries (get_or ks i 0) ∷ []) g e)

-- the rows of the next combination are those of the start
pub pair_later : (x : ℕ) (old new : List (RowStep × Linear)) (u k : ℕ) → Grow old new → u < length old → k < length old → IsPair x (row_in old u) (row_in old k) → IsPair x (row_in new u) (row_in new k)
pair_later x old new u k grow hu hk pair = subst (λ (r : Linear). IsPair x r (row_in new k)) (sym (grow.same u hu)) (subst (IsPair x (row_in old u)) (sym (grow.same k hk)) pair)

pub combined_more : (x u : ℕ) (old some : List (RowStep × Linear)) (ks : List ℕ) (i : ℕ) (start before after : List Linear) → i < length ks → Grow old some → u < length old → get_or ks i 0 < length old → Extend start before (combinations x (rows_in old (take i ks)) (row_in old u)) → Extend before after (tightened (least x (row_in some u) (row_in some (get_or ks i 0))) ∷ []) → Extend start after (combinations x (rows_in old (take (i + 1) ks)) (row_in old u))
combined_more x u old some ks i start before after h grow hu hk g e =
    subst (Extend start after) (sym (ap (λ (rs : List Linear). combinations x rs (row_in old u)) (rows_in_more old ks i h) ∙ combinations_more x (row_in old u) (row_in old (get_or ks i 0)) (rows_in old (take i ks))))
    (extend_trans start before after _ (tightened (least x (row_in old u) (row_in old (get_or ks i 0))) ∷ []) g
    (subst (λ (r : Linear). Extend before after (tightened (least x r (row_in old (get_or ks i 0))) ∷ [])) (grow.same u hu)
    (subst (λ (r : Linear). Extend before after (tightened (least x (row_in some u) r) ∷ [])) (grow.same (get_or ks i 0) hk) e)))

pub combined_all_more : (x : ℕ) (old some : List (RowStep × Linear)) (us ls : List ℕ) (i : ℕ) (start before after : List Linear) → i < length us → Grow old some → get_or us i 0 < length old → AreInside old ls → Extend start before (flat_map (combinations x (rows_in old ls)) (rows_in old (take i us))) → Extend before after (combinations x (rows_in some ls) (row_in some (get_or us i 0))) → Extend start after (flat_map (combinations x (rows_in old ls)) (rows_in old (take (i + 1) us)))
combined_all_more x old some us ls i start before after h grow hu inside g e =
    subst (Extend start after) (sym (ap (flat_map (combinations x (rows_in old ls))) (rows_in_more old us i h) ∙ flat_map_more (combinations x (rows_in old ls)) (rows_in old (take i us)) (row_in old (get_or us i 0))))
    (extend_trans start before after _ (combinations x (rows_in old ls) (row_in old (get_or us i 0))) g
    (subst (λ (r : Linear). Extend before after (combinations x (rows_in old ls) r)) (grow.same (get_or us i 0) hu)
    (subst (λ (rs : List Linear). Extend before after (combinations x rs (row_in some (get_or us i 0)))) (rows_in_grow old some ls grow inside) e)))

pub keep_trans : (old some new : List (RowStep × Linear)) → KeepDerived old some → KeepDerived some new → KeepDerived old new
keep_trans old some new g h given d = h given (g given d)

-- all rows of the next stage
pub stand_of_parts : (x : ℕ) (old new : List (RowStep × Linear)) (free us ls ks ks' : List ℕ) (rows : List Linear) → rows_in old free ≡ without x rows → rows_in old us ≡ uppers x rows → rows_in old ls ≡ lowers x rows → Extend [] (rows_in old ks) (rows_in old free) → Extend (rows_in old ks) (rows_in new ks') (flat_map (combinations x (rows_in old ls)) (rows_in old us)) → Stand (rows_in new ks') (next x rows)
stand_of_parts x old new free us ls ks ks' rows f u l first second =
    subst (Stand (rows_in new ks')) (ap (λ (rs : List Linear). rs ++ flat_map (combinations x (rows_in old ls)) (rows_in old us)) f ∙ ap (λ (rs : List Linear). without x rows ++ flat_map (combinations x rs) (rows_in old us)) l ∙ ap (λ (rs : List Linear). without x rows ++ flat_map (combinations x (lowers x rows)) rs) u)
    ((extend_trans [] (rows_in old ks) (rows_in new ks') (rows_in old free) _ first second).extends [] (stand_refl []))
