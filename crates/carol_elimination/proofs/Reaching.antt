-- From variable to variable, the last one first.
use Rattle.std.proofs.Common.{ℕ, suc, ◌+◌, ◌<◌, ◌≡◌, List, [], ◌∷◌, ◌++◌, length, get_or, take, drop, append_assoc, refl, sym, ◌∙◌, ap, subst, arith, inl, inr, drop-cons, Vec, Global}
use Rattle.std.specs.Prelude.{◌⊎◌, Option, None, Some, SomeIff, is_some, true, Result, Ok, Err, IfOk, ℤ, pos}
use Rattle.std.proofs.lemmas.Bool.{false≢true}
use Rattle.std.proofs.lemmas.List.{take_more, take-append-drop}
use Rattle.std.proofs.Math.ListN.{get_or-map}
use Rattle.carol_formula.specs.Linear.{Linear, constant_of}
use Rattle.carol_formula.specs.Value.{Fits, set_at}
use Rattle.carol_formula.proofs.Orders.{by_same}
use Rattle.carol_cert.specs.declared.step.RowStep.{RowStep}
use Rattle.carol_cert.specs.declared.step.RowStep.TheVariants.{Given}
use Rattle.carol_elimination.specs.Tightened.{tightened}
use Rattle.carol_elimination.specs.Stage.{Among, next, eliminated, variables, first_stage}
use Rattle.carol_elimination.specs.Values.{AreTrueRows, AreChosen}
use Rattle.carol_elimination.specs.Due.{IsStuck}
use Rattle.carol_elimination.specs.Stands.{Stand}
use Rattle.carol_elimination.specs.Free.{IsIn, Ascend}
use Rattle.carol_elimination.specs.Derived.{row_at, AreDerived}
use Rattle.carol_elimination.proofs.Rows.{among_cases, among_map}
use Rattle.carol_elimination.proofs.Kept.{chosen_from}
use Rattle.carol_elimination.proofs.Truth.{chosen_true, tightened_true}
use Rattle.carol_elimination.proofs.Free.{free_after, variables_ascend}
use Rattle.carol_elimination.proofs.Closing.{derive_front}
use Rattle.carol_elimination.specs.Entries.{steps_of, row_in, AreInside, rows_in}
use Rattle.carol_elimination.specs.Outcome.{AreStages, IsQuietOutcome}
use Rattle.carol_elimination.specs.declared.elimination.Elimination.{Elimination}
use Rattle.carol_elimination.proofs.Eliminating.{eliminated-push}
use Rattle.carol_elimination.specs.declared.bounds.Bounds.{Bounds}
use Rattle.carol_elimination.specs.Limits.{AreBounds, IsNearestWithin, IsBelowBoth}
use Rattle.carol_elimination.specs.Choosing.{AreMet, IsStuckAt, AreLastChosen, IsDerivedBy}
use Rattle.carol_elimination.proofs.Setting.{at_other}
use Rattle.carol_elimination.proofs.Deciding.{chosen_at, others_chosen, stuck_stage, k_small, not_in, ascend_at, stuck_in}

-- the variables after those that are left have chosen values, and any other is 0
pub record IsReached (given : List Linear) (vs left : List ℕ) (f : ℕ → ℤ) : Type 0 where
  pub after : List ℕ
  pub split : left ++ after ≡ vs
  pub chosen : AreChosen after (eliminated left (first_stage given)) f
  pub others : (v : ℕ) → IsIn v after ⊎ (f v ≡ pos 0)

pub last_chosen : (given : List Linear) (vs left : List ℕ) (f : ℕ → ℤ) → vs ≡ variables given → IsReached given vs left f → AreLastChosen given f
last_chosen given vs left f all r = record {
  last = record { before = left; after = r.after; split = r.split ∙ all; chosen = r.chosen };
  others = r.others;
}

-- ---- one variable

-- the variable x stands between those that are left and those that have values
record IsNext (given : List Linear) (before : List ℕ) (x : ℕ) (after : List ℕ) (f : ℕ → ℤ) : Type 0 where
  pub whole : before ++ x ∷ after ≡ variables given
  pub chosen : AreChosen after (next x (eliminated before (first_stage given))) f
  pub ascends : Ascend 0 (before ++ x ∷ after)
  pub others : (v : ℕ) → IsIn v after ⊎ (f v ≡ pos 0)

at_next : (given : List Linear) (vs left before : List ℕ) (x : ℕ) (f : ℕ → ℤ) → vs ≡ variables given → left ≡ before ++ x ∷ [] → (r : IsReached given vs left f) → IsNext given before x r.after f
at_next given vs left before x f all is r = record {
  whole = whole;
  chosen = subst (λ (rows : List Linear). AreChosen r.after rows f) (ap (λ (ws : List ℕ). eliminated ws (first_stage given)) is ∙ eliminated-push before x (first_stage given)) r.chosen;
  ascends = subst (Ascend 0) (sym whole) (variables_ascend given);
  others = r.others;
}
  where
    whole : before ++ x ∷ r.after ≡ variables given
    whole = sym (append_assoc before (x ∷ []) r.after) ∙ ap (λ (ws : List ℕ). ws ++ r.after) (sym is) ∙ r.split ∙ all

is_later : (given : List Linear) (before : List ℕ) (x : ℕ) (after : List ℕ) (f : ℕ → ℤ) → IsNext given before x after f → IsIn x after → ⊥
is_later given before x after f n i = not_in (x + 1) x after (ascend_at 0 before x after n.ascends).1 (omega arith) i

-- its value is 0 so far
pub zero_so_far : (given : List Linear) (vs left before : List ℕ) (x : ℕ) (f : ℕ → ℤ) → vs ≡ variables given → left ≡ before ++ x ∷ [] → IsReached given vs left f → f x ≡ pos 0
zero_so_far given vs left before x f all is r = elim (r.others x) [
  | inl i ↦ absurd (is_later given before x r.after f (at_next given vs left before x f all is r) i)
  | inr e ↦ e
]

pub reach_next : (given : List Linear) (vs left before : List ℕ) (x : ℕ) (f : ℕ → ℤ) (kept : List Linear) (b : Bounds) (w : ℤ) → vs ≡ variables given → left ≡ before ++ x ∷ [] → IsReached given vs left f → Stand kept (eliminated before (first_stage given)) → AreBounds x kept f b → IsNearestWithin b w → IsReached given vs before (set_at x w f)
reach_next given vs left before x f kept b w all is r stand are near =
    let n = at_next given vs left before x f all is r in
    let rows = eliminated before (first_stage given) in
    record {
      after = x ∷ r.after;
      split = n.whole ∙ sym all;
      chosen = (chosen_from x kept rows (set_at x w f) stand (chosen_at x kept f b w are near), others_chosen x w r.after (next x rows) f (free_after x rows) (is_later given before x r.after f n) n.chosen);
      others = λ v. by_same v x (λ _. ((v ≡ x) ⊎ IsIn v r.after) ⊎ (set_at x w f v ≡ pos 0)) (λ e. inl (inl e)) (λ apart. elim (r.others v) [ inl i ↦ inl (inr i) | inr e ↦ inr (at_other x v w f apart ∙ e) ]);
    }

-- ---- the stage of a variable

pub stage_long : (before : List ℕ) (x : ℕ) (after : List ℕ) (rows : List Linear) (entries : List (RowStep × Linear)) (ss : List (Vec ℕ Global)) → AreStages (before ++ x ∷ after) rows entries ss → length before < length ss
stage_long [] x after rows entries [] h = absurd h
stage_long [] x after rows entries (q ∷ ss) h = omega arith
stage_long (v ∷ vs) x after rows entries [] h = absurd h
stage_long (v ∷ vs) x after rows entries (q ∷ ss) h = omega (arith, stage_long vs x after (next v rows) entries ss h.2)

-- the numbers are those of rows that stand for all rows of the stage
pub record IsStage (entries : List (RowStep × Linear)) (ks : List ℕ) (rows : List Linear) : Type 0 where
  pub inside : AreInside entries ks
  pub stand : Stand (rows_in entries ks) rows

stage_in : (before : List ℕ) (x : ℕ) (after : List ℕ) (rows : List Linear) (entries : List (RowStep × Linear)) (ss : List (Vec ℕ Global)) (s : Vec ℕ Global) → AreStages (before ++ x ∷ after) rows entries ss → s ≡ get_or ss (length before) s → IsStage entries s.items (eliminated before rows)
stage_in [] x after rows entries [] s h e = absurd h
stage_in [] x after rows entries (q ∷ ss) s h e = subst (λ (t : Vec ℕ Global). IsStage entries t.items rows) (sym e) (record { inside = h.0; stand = h.1 })
stage_in (v ∷ vs) x after rows entries [] s h e = absurd h
stage_in (v ∷ vs) x after rows entries (q ∷ ss) s h e = stage_in vs x after (next v rows) entries ss s h.2 e

are_stages : (given : List Linear) (vs left before : List ℕ) (x : ℕ) (f : ℕ → ℤ) (entries : List (RowStep × Linear)) (ss : List (Vec ℕ Global)) → vs ≡ variables given → left ≡ before ++ x ∷ [] → (r : IsReached given vs left f) → AreStages vs (first_stage given) entries ss → AreStages (before ++ x ∷ r.after) (first_stage given) entries ss
are_stages given vs left before x f entries ss all is r = subst (λ (ws : List ℕ). AreStages ws (first_stage given) entries ss) (all ∙ sym (at_next given vs left before x f all is r).whole)

pub has_stage : (given : List Linear) (vs left before : List ℕ) (x : ℕ) (f : ℕ → ℤ) (entries : List (RowStep × Linear)) (ss : List (Vec ℕ Global)) → vs ≡ variables given → left ≡ before ++ x ∷ [] → IsReached given vs left f → AreStages vs (first_stage given) entries ss → length before < length ss
has_stage given vs left before x f entries ss all is r stages = stage_long before x r.after (first_stage given) entries ss (are_stages given vs left before x f entries ss all is r stages)

pub stage_of : (given : List Linear) (vs left before : List ℕ) (x : ℕ) (f : ℕ → ℤ) (entries : List (RowStep × Linear)) (ss : List (Vec ℕ Global)) (s : Vec ℕ Global) → vs ≡ variables given → left ≡ before ++ x ∷ [] → IsReached given vs left f → AreStages vs (first_stage given) entries ss → s ≡ get_or ss (length before) s → IsStage entries s.items (eliminated before (first_stage given))
stage_of given vs left before x f entries ss s all is r stages e = stage_in before x r.after (first_stage given) entries ss s (are_stages given vs left before x f entries ss all is r stages) e

-- ---- a branch that is due

eliminated-append : (xs ys : List ℕ) (rows : List Linear) → eliminated (xs ++ ys) rows ≡ eliminated ys (eliminated xs rows)
eliminated-append [] ys rows = refl
eliminated-append (x ∷ xs) ys rows = eliminated-append xs ys (next x rows)

pub stuck_due : (given : List Linear) (vs left before : List ℕ) (x : ℕ) (f : ℕ → ℤ) (e : Elimination) (kept : List Linear) (b : Bounds) (k : ℤ) → vs ≡ variables given → left ≡ before ++ x ∷ [] → IsReached given vs left f → IsQuietOutcome given vs e → Stand kept (eliminated before (first_stage given)) → AreBounds x kept f b → IsBelowBoth b k → IsStuckAt given x k
stuck_due given vs left before x f e kept b k all is r quiet stand are stuck =
    let n = at_next given vs left before x f all is r in
    let rows = eliminated before (first_stage given) in
    let settled = subst (AreTrueRows f) (ap (λ (ws : List ℕ). eliminated ws (first_stage given)) (all ∙ sym n.whole) ∙ eliminated-append before (x ∷ r.after) (first_stage given)) (quiet.settled f) in
    let later = chosen_true r.after (next x rows) f settled n.chosen in
    let small = k_small x kept f b k are stuck in
    record {
      due = record {
        quiet = quiet.quiet;
        numbers = f;
        stuck = subst (λ (ws : List ℕ). IsStuck x k f ws (first_stage given)) n.whole (stuck_in 0 before x r.after (first_stage given) f k n.ascends (stuck_stage x kept rows f b k stand later are stuck) n.chosen);
      };
      low_side = small.0;
      high_side = small.1;
    }

-- ---- the end

pub reached_true : (given : List Linear) (vs left : List ℕ) (f : ℕ → ℤ) (e : Elimination) → left ≡ [] → IsReached given vs left f → IsQuietOutcome given vs e → AreTrueRows f given
reached_true given vs left f e none r quiet t among = tightened_true t f (first (tightened t) (among_map tightened t given among))
  where
    first : AreTrueRows f (first_stage given)
    first = chosen_true r.after (first_stage given) f
        (subst (λ (ws : List ℕ). AreTrueRows f (eliminated ws (first_stage given))) (sym (ap (λ (ws : List ℕ). ws ++ r.after) (sym none) ∙ r.split)) (quiet.settled f))
        (subst (λ (ws : List ℕ). AreChosen r.after (eliminated ws (first_stage given)) f) none r.chosen)

pub are_met : (given : List Linear) (f : ℕ → ℤ) → AreTrueRows f given → ((r : Linear) → Among r given → Fits r f) → AreMet f given
are_met given f holds fit r among = record { fits = fit r among; holds = holds r among }

-- the answer is that the fact holds
pub some_fits : (o : Option ℤ) (P : Type 0) (v : ℤ) → SomeIff o P v → is_some o ≡ true → P
some_fits None P v h e = absurd (false≢true e)
some_fits (Some z) P v h e = h.0

-- one given row more
pub fit_more : (given : List Linear) (f : ℕ → ℤ) (at : ℕ) → at < length given → ((r : Linear) → Among r (take at given) → Fits r f) → Fits (row_at given at) f → (r : Linear) → Among r (take (at + 1) given) → Fits r f
fit_more given f at h fit last r among = elim (among_cases r (take at given) (row_at given at ∷ []) (subst (Among r) (take_more given at (constant_of (pos 0)) h) among)) [
  | inl before ↦ fit r before
  | inr is_last ↦ elim is_last [
    | inl e ↦ subst (λ (t : Linear). Fits t f) (sym e) last
    | inr none ↦ absurd none
  ]
]

-- ---- rows with their steps

pub derived_at : (given : List Linear) (entries : List (RowStep × Linear)) (at : ℕ) (steps : List RowStep) (row : Linear) → AreDerived given entries → at < length entries → steps ≡ steps_of (take (at + 1) entries) → row ≡ row_in entries at → IsDerivedBy given steps row
derived_at given entries at steps row derived h are is = subst (IsDerivedBy given steps) (sym (is ∙ get_or-map (λ (e : RowStep × Linear). e.1) entries at nothing)) (record {
  before = take at entries;
  step = (get_or entries at nothing).0;
  derived = derive_front given [] (take at entries ++ get_or entries at nothing ∷ []) (drop (suc at) entries) (subst (AreDerived given) (sym whole) derived);
  are_steps = are ∙ ap steps_of (take_more entries at nothing h);
})
  where
    nothing : RowStep × Linear
    nothing = (Given 0, constant_of (pos 0))

    whole : (take at entries ++ get_or entries at nothing ∷ []) ++ drop (suc at) entries ≡ entries
    whole = append_assoc (take at entries) (get_or entries at nothing ∷ []) (drop (suc at) entries) ∙ ap (λ (es : List (RowStep × Linear)). take at entries ++ es) (sym (drop-cons entries at nothing h)) ∙ take-append-drop at entries

pub given_at : (given : List Linear) (at k : ℕ) (steps : List RowStep) (row : Linear) → k ≡ at → at < length given → steps ≡ Given k ∷ [] → row ≡ row_at given at → IsDerivedBy given steps row
given_at given at k steps row same h are is = record {
  before = [];
  step = Given k;
  derived = (omega (arith, same, h), is ∙ ap (row_at given) (sym same), tt);
  are_steps = are;
}

pub no_variable_left : (left : List ℕ) → length left ≡ 0 → left ≡ []
no_variable_left [] h = refl
no_variable_left (x ∷ xs) h = absurd (omega arith)

-- what is said of a result says something else too
pub if_ok : {A E : Type 0} (r : Result A E) {P : A → Type 0} (Q : A → Type 0) → ((a : A) → P a → Q a) → IfOk r P → IfOk r Q
if_ok (Ok a) Q h p = h a p
if_ok (Err e) Q h p = tt
