-- What the marks of needed rows say, from some row on.
use Rattle.std.proofs.Common.{◌≡◌, ℕ, ◌+◌, ◌<◌, ◌≤◌, Bool, true, false, List, length, sym, ◌∙◌, ap, subst, arith, inl, inr}
use Rattle.std.specs.Prelude.{Some, slice_get, slice_set}
use Rattle.std.proofs.lemmas.Bool.{cases_lt, cases_eq}
use Rattle.std.proofs.lemmas.List.{get_or-set_same, get_or-set_other}
use Rattle.carol_cert.specs.declared.step.RowStep.{RowStep}
use Rattle.carol_cert.specs.declared.step.RowStep.TheVariants.{Given, Reversed, Combine, Tighten}
use Rattle.carol_linear.specs.Pruned.{mark_at, MarksParts, MarksFrom}

-- with each marked row from row `low` on, its parts are marked, and so is the last row, if it is one of these
pub record IsMarkedFrom (low : ℕ) (marks : List Bool) (steps : List RowStep) : Type 0 where
  pub as_many : length marks ≡ length steps
  pub last : (k : ℕ) → low ≤ k → k + 1 ≡ length steps → mark_at marks k ≡ true
  pub parts : MarksFrom low marks steps

MarksParts-kept : (old new : List Bool) (k : ℕ) (s : RowStep) → ((j : ℕ) → mark_at old j ≡ true → mark_at new j ≡ true) → MarksParts old k s → MarksParts new k s
MarksParts-kept old new k (Given at) kept h = tt
MarksParts-kept old new k (Reversed at) kept h = tt
MarksParts-kept old new k (Combine a m b n) kept h = ((λ l. kept a (h.0 l)), (λ l. kept b (h.1 l)))
MarksParts-kept old new k (Tighten a d) kept h = λ l. kept a (h l)

-- the row before, marked where it is the last one; and its parts
pub marked_more : (n low : ℕ) (old some new : List Bool) (steps : List RowStep) (s : RowStep) → n + 1 ≡ low → slice_get steps n ≡ Some s → IsMarkedFrom low old steps → length new ≡ length old → ((k : ℕ) → mark_at old k ≡ true → mark_at some k ≡ true) → ((k : ℕ) → n < k → mark_at some k ≡ mark_at old k) → (n + 1 ≡ length steps → mark_at some n ≡ true) → ((k : ℕ) → mark_at some k ≡ true → mark_at new k ≡ true) → ((k : ℕ) → n ≤ k → mark_at new k ≡ mark_at some k) → MarksParts new n s → IsMarkedFrom n new steps
marked_more n low old some new steps s next here f l kept other here_last kept_again later parts = record {
  as_many = l ∙ f.as_many;
  last = λ k above e.
      elim (cases_lt n k) [
        | inl after ↦ kept_again k (kept k (f.last k (omega arith) e))
        | inr before ↦ let same : n ≡ k = omega arith in kept_again k (subst (λ j. mark_at some j ≡ true) same (here_last (omega arith)))
      ];
  parts = λ k r above at marked.
      elim (cases_lt n k) [
        | inl after ↦ MarksParts-kept old new k r (λ j h. kept_again j (kept j h)) (f.parts k r (omega arith) at (sym (later k above ∙ other k after) ∙ marked))
        | inr before ↦
            let same : n ≡ k = omega arith in
            let step : s ≡ r = some_same s r (sym here ∙ ap (slice_get steps) same ∙ at) in
            subst (λ j. MarksParts new j r) same (subst (MarksParts new n) step parts)
      ];
}
  where
    some_same : (s r : RowStep) → Some s ≡ Some r → s ≡ r
    some_same s r e = cc

-- the marks with that of the last row
pub mark_at-set_same : (marks : List Bool) (n : ℕ) → n < length marks → mark_at (slice_set marks n true) n ≡ true
mark_at-set_same marks n h = get_or-set_same marks n true false h

pub mark_at-set_other : (marks : List Bool) (n k : ℕ) → n < k → mark_at (slice_set marks n true) k ≡ mark_at marks k
mark_at-set_other marks n k h = get_or-set_other marks n k true false (omega arith)

pub mark_at-set_kept : (marks : List Bool) (n k : ℕ) → n < length marks → mark_at marks k ≡ true → mark_at (slice_set marks n true) k ≡ true
mark_at-set_kept marks n k h marked =
    elim (cases_eq k n) [
      | inl same ↦ ap (mark_at (slice_set marks n true)) same ∙ mark_at-set_same marks n h
      | inr other ↦ get_or-set_other marks n k true false other ∙ marked
    ]
