-- What the kept rows say of numbers, all rows that they stand for say too.
use Rattle.std.proofs.Common.{ℕ, ◌≡◌, ◌≢◌, List, sym, ◌∙◌, ap, arith, inl, inr}
use Rattle.std.specs.Prelude.{ℤ, pos, ◌+ℤ◌, ◌≤ℤ◌}
use Rattle.std.proofs.lemmas.Int.{ints}
use Rattle.std.proofs.Math.IntN.{+ℤ_idl}
use Rattle.carol_formula.specs.Linear.{Linear, coefficient_of}
use Rattle.carol_formula.specs.Value.{sum_at, value_at, set_at}
use Rattle.carol_elimination.specs.Stage.{factor_of, HasNoAbsurd}
use Rattle.carol_elimination.specs.Values.{AreTrueRows, Allow, IsChosen}
use Rattle.carol_elimination.specs.Due.{IsFloor}
use Rattle.carol_elimination.specs.Stands.{IsIdle, Dominates, Stand}
use Rattle.carol_elimination.proofs.Standing.{lower_same, dominating, lower_not_idle}

-- the value of a row is at most that of one that dominates it
dominated_value : (k r : Linear) (f : ℕ → ℤ) → Dominates k r → value_at r f ≤ℤ value_at k f
dominated_value k r f h =
    let same : sum_at r.pairs f ≡ sum_at k.pairs f = ap (λ (ps : List (ℕ × ℤ)). sum_at ps f) h.same in
    let tighter = h.tighter in
    omega (arith, ints)

factor_same : (x : ℕ) (k r : Linear) → Dominates k r → factor_of x r ≡ factor_of x k
factor_same x k r h = ap (coefficient_of x) h.same

with_variable_not_idle : (x : ℕ) (r : Linear) → factor_of x r ≢ pos 0 → IsIdle r → ⊥
with_variable_not_idle x r h idle = h (ap (coefficient_of x) idle.no_variable)

-- ---- absurd rows

pub no_absurd_from : (kept rows : List Linear) → Stand kept rows → HasNoAbsurd kept → HasNoAbsurd rows
no_absurd_from kept rows stand none r among absurd_row = elim (stand.left_out r among) [
  | inl idle ↦
      let above = absurd_row.positive in
      let below = idle.holds in
      absurd (omega (arith, ints))
  | inr d ↦
      let above = absurd_row.positive in
      let tighter = d.dominates.tighter in
      none d.by d.among (record { no_variable = sym d.dominates.same ∙ absurd_row.no_variable; positive = omega (arith, ints) })
]

-- ---- values

pub allow_from : (x : ℕ) (kept rows : List Linear) (f : ℕ → ℤ) (z : ℤ) → Stand kept rows → Allow x kept f z → Allow x rows f z
allow_from x kept rows f z stand allow r among has =
    let d = dominating kept rows r stand among (with_variable_not_idle x r has) in
    let holds = allow d.by d.among (λ e. has (factor_same x d.by r d.dominates ∙ e)) in
    let below = dominated_value d.by r (set_at x z f) d.dominates in
    omega (arith, ints)

pub allow_to : (x : ℕ) (kept rows : List Linear) (f : ℕ → ℤ) (z : ℤ) → Stand kept rows → Allow x rows f z → Allow x kept f z
allow_to x kept rows f z stand allow r among has = allow r (stand.chosen r among) has

pub chosen_from : (x : ℕ) (kept rows : List Linear) (f : ℕ → ℤ) → Stand kept rows → IsChosen x kept f → IsChosen x rows f
chosen_from x kept rows f stand h = record {
  allowed = allow_from x kept rows f (f x) stand h.allowed;
  nearest = λ z allow. h.nearest z (allow_to x kept rows f z stand allow);
}

pub no_whole_from : (x : ℕ) (kept rows : List Linear) (f : ℕ → ℤ) → Stand kept rows → ((z : ℤ) → ¬ Allow x kept f z) → (z : ℤ) → ¬ Allow x rows f z
no_whole_from x kept rows f stand none z allow = none z (allow_to x kept rows f z stand allow)

pub floor_from : (x : ℕ) (kept rows : List Linear) (f : ℕ → ℤ) (k : ℤ) → Stand kept rows → IsFloor x kept f k → IsFloor x rows f k
floor_from x kept rows f k stand h = record {
  below = λ l among bounds.
      let d = dominating kept rows l stand among (lower_not_idle x l bounds) in
      let less = h.below d.by d.among (sym (lower_same x d.by l d.dominates) ∙ bounds) in
      let value = dominated_value d.by l (set_at x (k +ℤ pos 1) f) d.dominates in
      omega (arith, ints);
  reached = (h.reached.0, stand.chosen h.reached.0 h.reached.1, h.reached.2, h.reached.3);
}

-- ---- truth

pub true_from : (kept rows : List Linear) (f : ℕ → ℤ) → Stand kept rows → AreTrueRows f kept → AreTrueRows f rows
true_from kept rows f stand holds r among = elim (stand.left_out r among) [
  | inl idle ↦
      let value : value_at r f ≡ r.rest = ap (λ (ps : List (ℕ × ℤ)). sum_at ps f +ℤ r.rest) idle.no_variable ∙ +ℤ_idl r.rest in
      let below = idle.holds in
      omega (arith, ints)
  | inr d ↦
      let above = holds d.by d.among in
      let value = dominated_value d.by r f d.dominates in
      omega (arith, ints)
]
