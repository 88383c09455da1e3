-- From stage to stage.
use Rattle.std.proofs.Common.{ℕ, zero, suc, ◌+◌, ◌<◌, ◌≤◌, ◌≡◌, List, [], ◌∷◌, ◌++◌, map, length, get_or, take, drop, append_assoc, refl, sym, ◌∙◌, ap, subst, arith, inl, inr, drop-cons, add-one, Vec, Global}
use Rattle.std.specs.Prelude.{ℤ, pos}
use Rattle.std.proofs.lemmas.List.{take_more, take-append-drop, get_or-map, length-map}
use Rattle.std.proofs.Math.ListN.{get_or-map as get_or-map_default}
use Rattle.std.proofs.Math.Seq.{take-length, drop-length}
use Rattle.carol_formula.specs.Linear.{Linear, IsTerm, constant_of}
use Rattle.carol_formula.specs.Claim.{Le}
use Rattle.carol_formula.specs.declared.term.Row.{Row}
use Rattle.carol_cert.specs.declared.step.RowStep.{RowStep}
use Rattle.carol_cert.specs.declared.step.RowStep.TheVariants.{Given}
use Rattle.carol_cert.specs.Steps.{Closes}
use Rattle.carol_elimination.specs.Tightened.{tightened}
use Rattle.carol_elimination.specs.Stage.{Among, next, eliminated, variables, first_stage, IsAbsurdRow, HasNoAbsurd, IsQuiet}
use Rattle.carol_elimination.specs.Values.{AreTrueRows}
use Rattle.carol_elimination.specs.Free.{IsFree, Cover, Ascend}
use Rattle.carol_elimination.specs.Stands.{Stand}
use Rattle.carol_elimination.specs.Derived.{row_at, AreDerived}
use Rattle.carol_elimination.proofs.Rows.{among_cases}
use Rattle.carol_elimination.proofs.Standing.{stand_trans, stand_next}
use Rattle.carol_elimination.proofs.Kept.{no_absurd_from, true_from}
use Rattle.carol_elimination.proofs.Free.{below_free, cover_next, variables_ascend, last_true}
use Rattle.carol_elimination.proofs.Closing.{absurd_closes, derive_front}
use Rattle.carol_elimination.specs.Entries.{terms_of, steps_of, row_in, AreInside, rows_in, Grow, IsMade}
use Rattle.carol_elimination.specs.Extends.{Extend}
use Rattle.carol_elimination.specs.Outcome.{AreStages, AreSound, IsQuietOutcome}
use Rattle.carol_elimination.proofs.Growing.{inside_grow, rows_in_grow}
use Rattle.carol_elimination.proofs.Extending.{map-push}
use Rattle.carol_elimination.proofs.Combining.{rows_in_more}

-- ---- the first stage

pub given_row : (given : List Row) (at : ℕ) (r : Row) → at < length given → r ≡ get_or given at r → row_at (terms_of given) at ≡ r.0
given_row given at r h e = get_or-map (λ (s : Row). s.0) given at r (constant_of (pos 0)) h ∙ ap (λ (s : Row). s.0) (sym e)

pub given_made : (given : List Row) (entries : List (RowStep × Linear)) (at k : ℕ) (row : Linear) → k ≡ at → at < length given → row ≡ row_at (terms_of given) at → IsMade (terms_of given) entries (Given k) row
given_made given entries at k row e h is = record {
  deriving_ = omega (arith, e, h, length-map given (λ (r : Row). r.0));
  is = is ∙ ap (row_at (terms_of given)) (sym e);
}

pub first_more : (terms old new : List Linear) (at : ℕ) (row : Linear) → at < length terms → row ≡ row_at terms at → Stand old (first_stage (take at terms)) → Extend old new (tightened row ∷ []) → Stand new (first_stage (take (at + 1) terms))
first_more terms old new at row h is stand extend = subst (Stand new) (ap (λ (r : Linear). first_stage (take at terms) ++ tightened r ∷ []) is ∙ sym (ap first_stage (take_more terms at (constant_of (pos 0)) h) ∙ map-push tightened (take at terms) (row_at terms at))) (extend.extends (first_stage (take at terms)) stand)

-- ---- absurd rows

pub sound_more : (entries : List (RowStep × Linear)) (ks : List ℕ) (i : ℕ) → i < length ks → AreSound (rows_in entries (take i ks)) → IsTerm (row_in entries (get_or ks i 0)) → ¬ IsAbsurdRow (row_in entries (get_or ks i 0)) → AreSound (rows_in entries (take (i + 1) ks))
sound_more entries ks i h sound term fine r among = elim (among_cases r (rows_in entries (take i ks)) (row_in entries (get_or ks i 0) ∷ []) (subst (Among r) (rows_in_more entries ks i h) among)) [
  | inl before ↦ sound r before
  | inr last ↦ elim last [
    | inl e ↦ subst (λ (s : Linear). IsTerm s × (¬ IsAbsurdRow s)) (sym e) (term, fine)
    | inr none ↦ absurd none
  ]
]

-- an absurd row of the arena closes the given rows
pub closes_at : (given : List Linear) (entries : List (RowStep × Linear)) (at : ℕ) → AreDerived given entries → at < length entries → IsAbsurdRow (row_in entries at) → Closes (map Le given) (steps_of (take (at + 1) entries))
closes_at given entries at derived h row = subst (λ (es : List (RowStep × Linear)). Closes (map Le given) (steps_of es)) (sym (take_more entries at nothing h)) (absurd_closes given (take at entries) (get_or entries at nothing) front (subst IsAbsurdRow (get_or-map_default (λ (e : RowStep × Linear). e.1) entries at nothing) row))
  where
    nothing : RowStep × Linear
    nothing = (Given 0, constant_of (pos 0))

    whole : (take at entries ++ get_or entries at nothing ∷ []) ++ drop (suc at) entries ≡ entries
    whole = append_assoc (take at entries) (get_or entries at nothing ∷ []) (drop (suc at) entries) ∙ ap (λ (es : List (RowStep × Linear)). take at entries ++ es) (sym (drop-cons entries at nothing h)) ∙ take-append-drop at entries

    front : AreDerived given (take at entries ++ get_or entries at nothing ∷ [])
    front = derive_front given [] (take at entries ++ get_or entries at nothing ∷ []) (drop (suc at) entries) (subst (AreDerived given) (sym whole) derived)

-- ---- variables

ascend_lower : (low high : ℕ) (vs : List ℕ) → low ≤ high → Ascend high vs → Ascend low vs
ascend_lower low high [] h a = tt
ascend_lower low high (v ∷ vs) h a = (omega (arith, h, a.0), a.1)

ascend_drop : (i : ℕ) (vs : List ℕ) (low : ℕ) → Ascend low vs → Ascend 0 (drop i vs)
ascend_drop zero vs low a = ascend_lower 0 low vs (omega arith) a
ascend_drop (suc i) [] low a = tt
ascend_drop (suc i) (v ∷ vs) low a = ascend_drop i vs (v + 1) a.1

pub drop_at : (vs : List ℕ) (i : ℕ) → i < length vs → drop i vs ≡ get_or vs i 0 ∷ drop (i + 1) vs
drop_at vs i h = drop-cons vs i 0 h ∙ ap (λ (n : ℕ). get_or vs i 0 ∷ drop n vs) (sym (add-one i))

pub lowest_at : (given kept rows : List Linear) (vs : List ℕ) (i x : ℕ) → vs ≡ variables given → drop i vs ≡ x ∷ drop (i + 1) vs → Cover (drop i vs) rows → Stand kept rows → (v : ℕ) → v < x → IsFree v kept
lowest_at given kept rows vs i x all at cover stand v h r among =
    let ascend = subst (Ascend 0) at (ascend_drop i vs 0 (subst (Ascend 0) (sym all) (variables_ascend given))) in
    below_free x (x ∷ drop (i + 1) vs) rows (omega arith, ascend.1) (subst (λ (ws : List ℕ). Cover ws rows) at cover) v h r (stand.chosen r among)

pub eliminated-push : (xs : List ℕ) (x : ℕ) (rows : List Linear) → eliminated (xs ++ x ∷ []) rows ≡ next x (eliminated xs rows)
eliminated-push [] x rows = refl
eliminated-push (v ∷ vs) x rows = eliminated-push vs x (next v rows)

pub eliminated_more : (vs : List ℕ) (i : ℕ) (rows : List Linear) → i < length vs → eliminated (take (i + 1) vs) rows ≡ next (get_or vs i 0) (eliminated (take i vs) rows)
eliminated_more vs i rows h = ap (λ (ws : List ℕ). eliminated ws rows) (take_more vs i 0 h) ∙ eliminated-push (take i vs) (get_or vs i 0) rows

pub cover_more : (vs : List ℕ) (i : ℕ) (rows : List Linear) → i < length vs → drop i vs ≡ get_or vs i 0 ∷ drop (i + 1) vs → Cover (drop i vs) (eliminated (take i vs) rows) → Cover (drop (i + 1) vs) (eliminated (take (i + 1) vs) rows)
cover_more vs i rows h at cover = subst (Cover (drop (i + 1) vs)) (sym (eliminated_more vs i rows h)) (cover_next (get_or vs i 0) (drop (i + 1) vs) (eliminated (take i vs) rows) (subst (λ (ws : List ℕ). Cover ws (eliminated (take i vs) rows)) at cover))

pub stand_more : (vs : List ℕ) (i : ℕ) (kept new rows : List Linear) → i < length vs → Stand kept (eliminated (take i vs) rows) → Stand new (next (get_or vs i 0) kept) → Stand new (eliminated (take (i + 1) vs) rows)
stand_more vs i kept new rows h stand more = subst (Stand new) (sym (eliminated_more vs i rows h)) (stand_trans new (next (get_or vs i 0) kept) (next (get_or vs i 0) (eliminated (take i vs) rows)) more (stand_next (get_or vs i 0) kept (eliminated (take i vs) rows) stand))

-- ---- the stages so far

pub stages-push : (xs : List ℕ) (x : ℕ) (rows : List Linear) (entries : List (RowStep × Linear)) (ss : List (Vec ℕ Global)) (s : Vec ℕ Global) → AreStages xs rows entries ss → AreInside entries s.items → Stand (rows_in entries s.items) (eliminated xs rows) → AreStages (xs ++ x ∷ []) rows entries (ss ++ s ∷ [])
stages-push [] x rows entries [] s h inside stand = (inside, stand, tt)
stages-push [] x rows entries (q ∷ ss) s h inside stand = absurd h
stages-push (v ∷ vs) x rows entries [] s h inside stand = absurd h
stages-push (v ∷ vs) x rows entries (q ∷ ss) s h inside stand = (h.0, h.1, stages-push vs x (next v rows) entries ss s h.2 inside stand)

stages_grow : (xs : List ℕ) (rows : List Linear) (old new : List (RowStep × Linear)) (ss : List (Vec ℕ Global)) → Grow old new → AreStages xs rows old ss → AreStages xs rows new ss
stages_grow [] rows old new [] grow h = tt
stages_grow [] rows old new (q ∷ ss) grow h = h
stages_grow (v ∷ vs) rows old new [] grow h = h
stages_grow (v ∷ vs) rows old new (q ∷ ss) grow h = (inside_grow old new q.items grow h.0, subst (λ (rs : List Linear). Stand rs rows) (sym (rows_in_grow old new q.items grow h.0)) h.1, stages_grow vs (next v rows) old new ss grow h.2)

pub stages_more : (vs : List ℕ) (i : ℕ) (rows : List Linear) (old new : List (RowStep × Linear)) (ss : List (Vec ℕ Global)) (s : Vec ℕ Global) → i < length vs → Grow old new → AreStages (take i vs) rows old ss → AreInside old s.items → Stand (rows_in old s.items) (eliminated (take i vs) rows) → AreStages (take (i + 1) vs) rows new (ss ++ s ∷ [])
stages_more vs i rows old new ss s h grow stages inside stand = stages_grow (take (i + 1) vs) rows old new (ss ++ s ∷ []) grow (subst (λ (ws : List ℕ). AreStages ws rows old (ss ++ s ∷ [])) (sym (take_more vs i 0 h)) (stages-push (take i vs) (get_or vs i 0) rows old ss s stages inside stand))

-- ---- the end

pub no_absurd : (rows : List Linear) → AreSound rows → HasNoAbsurd rows
no_absurd rows sound r among = (sound r among).1

pub quiet_end : (given kept : List Linear) (vs : List ℕ) → vs ≡ variables given → Stand kept (eliminated vs (first_stage given)) → AreSound kept → IsQuiet given
quiet_end given kept vs all stand sound = no_absurd_from kept (eliminated (variables given) (first_stage given)) (subst (λ (ws : List ℕ). Stand kept (eliminated ws (first_stage given))) all stand) (no_absurd kept sound)

pub settled_end : (given kept : List Linear) (vs : List ℕ) → Stand kept (eliminated vs (first_stage given)) → Cover [] (eliminated vs (first_stage given)) → AreSound kept → (f : ℕ → ℤ) → AreTrueRows f (eliminated vs (first_stage given))
settled_end given kept vs stand cover sound f = true_from kept (eliminated vs (first_stage given)) f stand (last_true kept f none (λ r among. (sound r among).0.normal) (no_absurd kept sound))
  where
    none : Cover [] kept
    none v = elim (cover v) [ inl free ↦ inl (λ r among. free r (stand.chosen r among)) | inr i ↦ absurd i ]

pub quiet_outcome : (given : List Linear) (entries : List (RowStep × Linear)) (ks vs : List ℕ) (stages : Vec (Vec ℕ Global) Global) (i : ℕ) → i ≡ length vs → vs ≡ variables given → AreDerived given entries → AreStages (take i vs) (first_stage given) entries stages.items → Stand (rows_in entries ks) (eliminated (take i vs) (first_stage given)) → Cover (drop i vs) (eliminated (take i vs) (first_stage given)) → AreSound (rows_in entries ks) → IsQuietOutcome given vs (record { arena = entries; stages = stages })
quiet_outcome given entries ks vs stages i end all derived so_far stand cover sound =
    let whole : take i vs ≡ vs = ap (λ (n : ℕ). take n vs) end ∙ take-length vs in
    let none : drop i vs ≡ [] = ap (λ (n : ℕ). drop n vs) end ∙ drop-length vs in
    let last = subst (λ (ws : List ℕ). Stand (rows_in entries ks) (eliminated ws (first_stage given))) whole stand in
    record {
      derived = derived;
      stages = subst (λ (ws : List ℕ). AreStages ws (first_stage given) entries stages.items) whole so_far;
      quiet = quiet_end given (rows_in entries ks) vs all last sound;
      settled = settled_end given (rows_in entries ks) vs last (subst (λ (ws : List ℕ). Cover [] (eliminated ws (first_stage given))) whole (subst (λ (ws : List ℕ). Cover ws (eliminated (take i vs) (first_stage given))) none cover)) sound;
    }
