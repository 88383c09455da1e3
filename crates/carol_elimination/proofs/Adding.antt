-- A row and the row that it is divided to, added after others.
use Rattle.std.proofs.Common.{ℕ, zero, suc, ◌<◌, ◌≤◌, ◌≡◌, ◌≢◌, List, [], ◌∷◌, ◌++◌, length, refl, sym, ◌∙◌, ap, subst, arith}
use Rattle.std.specs.Prelude.{ℤ, pos, negsuc, neg_ℤ, unsigned_abs}
use Rattle.std.proofs.lemmas.Int.{ints}
use Rattle.std.proofs.lemmas.List.{length_push}
use Rattle.carol_formula.specs.Linear.{Linear}
use Rattle.carol_formula.specs.Division.{floor_of, ceiling_of, quotients, quotient_of}
use Rattle.carol_cert.specs.declared.step.RowStep.{RowStep}
use Rattle.carol_cert.specs.declared.step.RowStep.TheVariants.{Tighten}
use Rattle.carol_elimination.specs.Tightened.{content, divided, tightened}
use Rattle.carol_elimination.specs.Derived.{row_at, AreDerived}
use Rattle.carol_elimination.proofs.Closing.{derive_push}
use Rattle.carol_elimination.specs.Entries.{rows_of, row_in, AreInside, rows_in, Grow, IsMade}
use Rattle.carol_elimination.specs.Extends.{Extend, IsVerdict, placed}
use Rattle.carol_elimination.specs.declared.stage.Verdict.{Verdict}
use Rattle.carol_elimination.proofs.Extending.{placed_inside, placed_later}
use Rattle.carol_elimination.proofs.Growing.{row_in-last, length-rows_of, grow_push, inside_grow, rows_in_grow}

-- ---- the divided row

floor_of-one : (z : ℤ) → floor_of z 1 ≡ z
floor_of-one (pos n) = ap pos (omega arith)
floor_of-one (negsuc n) = ap negsuc (omega arith)

quotients-one : (ps : List (ℕ × ℤ)) → quotients 1 ps ≡ ps
quotients-one [] = refl
quotients-one (p ∷ ps) = ap (λ z. (p.0, z) ∷ quotients 1 ps) (floor_of-one p.1) ∙ ap (λ qs. p ∷ qs) (quotients-one ps)

quotient_of-one : (t : Linear) → quotient_of 1 t ≡ t
quotient_of-one t = ap (λ (ps : List (ℕ × ℤ)). record { pairs = ps; rest = ceiling_of t.rest 1 }) (quotients-one t.pairs) ∙ ap (λ (z : ℤ). record { pairs = t.pairs; rest = z }) (ap neg_ℤ (floor_of-one (neg_ℤ t.rest)) ∙ twice t.rest)
  where
    twice : (z : ℤ) → neg_ℤ (neg_ℤ z) ≡ z
    twice z = omega (arith, ints)

divided_small : (d : ℕ) (t : Linear) → d ≤ 1 → divided d t ≡ t
divided_small zero t h = refl
divided_small (suc zero) t h = quotient_of-one t
divided_small (suc (suc d)) t h = absurd (omega arith)

pub tightened_small : (t : Linear) → content t.pairs ≤ 1 → tightened t ≡ t
tightened_small t h = divided_small (content t.pairs) t h

divided_large : (d : ℕ) (t : Linear) → 0 < d → divided d t ≡ quotient_of d t
divided_large zero t h = absurd (omega arith)
divided_large (suc d) t h = refl

pub tightened_large : (d : ℕ) (t : Linear) → d ≡ content t.pairs → 0 < d → quotient_of d t ≡ tightened t
tightened_large d t e h = sym (divided_large d t h) ∙ ap (λ (n : ℕ). divided n t) e

-- ---- steps

pub derived_push : (given : List Linear) (entries : List (RowStep × Linear)) (step : RowStep) (row : Linear) → IsMade given entries step row → AreDerived given entries → AreDerived given (entries ++ (step, row) ∷ [])
derived_push given entries step row h d = derive_push given [] entries (step, row) d h.deriving_ h.is

-- the divided row after the row itself
pub tighten_made : (given : List Linear) (entries : List (RowStep × Linear)) (step : RowStep) (row divided_row : Linear) (a : ℕ) (d : ℤ) → a ≡ length entries → d ≡ pos (content row.pairs) → content row.pairs ≢ 0 → divided_row ≡ quotient_of (content row.pairs) row → IsMade given (entries ++ (step, row) ∷ []) (Tighten a d) divided_row
tighten_made given entries step row divided_row a d at size positive is = record {
  deriving_ = (
    omega (arith, at, length-rows_of (entries ++ (step, row) ∷ []), length_push entries (step, row)),
    size ∙ ap (λ (r : Linear). pos (content r.pairs)) (sym same),
    subst (λ (r : Linear). content r.pairs ≢ 0) (sym same) positive,
  );
  is = is ∙ sym (ap (λ (r : Linear). divided (unsigned_abs d) r) same ∙ ap (λ (z : ℤ). divided (unsigned_abs z) row) size ∙ divided_large (content row.pairs) row (omega (arith, positive)));
}
  where
    same : row_at (rows_of (entries ++ (step, row) ∷ [])) a ≡ row
    same = row_in-last entries (step, row) a at

-- ---- a stage and the rows after one more

pub added : (old new : List (RowStep × Linear)) (ks ks' : List ℕ) (v : Verdict) (at : ℕ) (step : RowStep) (r : Linear) → new ≡ old ++ (step, r) ∷ [] → at ≡ length old → ks' ≡ placed v at ks → AreInside old ks → IsVerdict (rows_in old ks) r v → AreInside new ks' × Extend (rows_in old ks) (rows_in new ks') (r ∷ [])
added old new ks ks' v at step r made_so number at_place inside verdict = (
  subst (AreInside new) (sym at_place) (placed_inside new ks v at (inside_grow old new ks grow inside) (subst (λ (es : List (RowStep × Linear)). at < length es) (sym made_so) (omega (arith, number, length_push old (step, r))))),
  subst (λ (qs : List ℕ). Extend (rows_in old ks) (rows_in new qs) (r ∷ [])) (sym at_place) (placed_later old new ks v at r grow inside verdict (ap (λ (es : List (RowStep × Linear)). row_in es at) made_so ∙ row_in-last old (step, r) at number)),
)
  where
    grow : Grow old new
    grow = subst (Grow old) (sym made_so) (grow_push old (step, r))

pub added_divided : (old some new : List (RowStep × Linear)) (ks ks' : List ℕ) (v : Verdict) (at : ℕ) (step next_step : RowStep) (r q : Linear) → some ≡ old ++ (step, r) ∷ [] → new ≡ some ++ (next_step, q) ∷ [] → at ≡ length some → ks' ≡ placed v at ks → q ≡ tightened r → AreInside old ks → IsVerdict (rows_in old ks) q v → AreInside new ks' × Extend (rows_in old ks) (rows_in new ks') (tightened r ∷ [])
added_divided old some new ks ks' v at step next_step r q first second number at_place is inside verdict =
    let same = rows_in_grow old some ks grow inside in
    let both = added some new ks ks' v at next_step q second number at_place (inside_grow old some ks grow inside) (subst (λ (rs : List Linear). IsVerdict rs q v) (sym same) verdict) in
    (both.0, subst (λ (rs : List Linear). Extend rs (rows_in new ks') (tightened r ∷ [])) same (subst (λ (s : Linear). Extend (rows_in some ks) (rows_in new ks') (s ∷ [])) is both.1))
  where
    grow : Grow old some
    grow = subst (Grow old) (sym first) (grow_push old (step, r))

pub made_derived : (given : List Linear) (old new : List (RowStep × Linear)) (step : RowStep) (r : Linear) → new ≡ old ++ (step, r) ∷ [] → IsMade given old step r → AreDerived given old → AreDerived given new
made_derived given old new step r e h d = subst (AreDerived given) (sym e) (derived_push given old step r h d)

pub grown : (old new : List (RowStep × Linear)) (step : RowStep) (r : Linear) → new ≡ old ++ (step, r) ∷ [] → Grow old new
grown old new step r e = subst (Grow old) (sym e) (grow_push old (step, r))

pub derived_divided : (given : List Linear) (old some new : List (RowStep × Linear)) (step : RowStep) (row q : Linear) (a : ℕ) (d : ℤ) → some ≡ old ++ (step, row) ∷ [] → new ≡ some ++ (Tighten a d, q) ∷ [] → a ≡ length old → d ≡ pos (content row.pairs) → content row.pairs ≢ 0 → q ≡ quotient_of (content row.pairs) row → IsMade given old step row → AreDerived given old → AreDerived given new
derived_divided given old some new step row q a d first second at size positive is h derived =
    made_derived given some new (Tighten a d) q second
    (subst (λ (es : List (RowStep × Linear)). IsMade given es (Tighten a d) q) (sym first) (tighten_made given old step row q a d at size positive is))
    (made_derived given old some step row first h derived)

-- the quotient by a number of the code
pub quotient_is : (q t : Linear) (z : ℤ) (n : ℕ) → z ≡ pos n → n ≡ content t.pairs → q ≡ quotient_of (unsigned_abs z) t → q ≡ quotient_of (content t.pairs) t
quotient_is q t z n e g is = is ∙ ap (λ (y : ℤ). quotient_of (unsigned_abs y) t) e ∙ ap (λ (m : ℕ). quotient_of m t) g

pub tightened_is : (q t : Linear) → 0 < content t.pairs → q ≡ quotient_of (content t.pairs) t → q ≡ tightened t
tightened_is q t h e = e ∙ tightened_large (content t.pairs) t refl h
