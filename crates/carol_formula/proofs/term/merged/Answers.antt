use Rattle.std.proofs.Common.{rules, ◌≡◌, ℕ, List, subst, lit<, ◌++◌}
use Rattle.std.specs.Prelude.{ℤ}
use Rattle.std.specs.Int.{w128}
use Rattle.std.proofs.lemmas.Int.{to_z-of_z}
use Rattle.carol_formula.specs.Bounds.{term_limit}
use Rattle.carol_formula.specs.Linear.{AllBelow, normal_of, times}
use Rattle.carol_formula.proofs.Orders.{after}
use Rattle.carol_formula.proofs.Merging.{step_left, step_both, step_right, too_wide_both, too_wide_right, above_first, above_nothing, ends}
use Rattle.carol_formula.proofs.term.merged.Goals as goal
use Rattle.carol_formula.proofs.term.merged.Goals.{in_default-split_first-via-in-Some-2+else-is_of, in_default-split_first-via-in_default-split_first}

-- `by` passed through the code's bits
as_passed : (P : List (ℕ × ℤ) → Type 0) (ones : List (ℕ × ℤ)) (k by : ℤ) (others : List (ℕ × ℤ)) → k ≡ by → P (normal_of (ones ++ times k others)) → P (normal_of (ones ++ times by others))
as_passed P ones k by others e h = subst (λ k. P (normal_of (ones ++ times k others))) e h

pub loop-other-preserved-then-is_before : goal.loop-other-preserved-then-is_before
loop-other-preserved-then-is_before c = step_left _ _ _ _ _ _ _ _ _ _ _ _ c.loop-other.invariant c.in-Some-split_first.ensures.cases.0 c.in-Some.ensures.cases.0 (search rules) c.in_ok-keep-in-Some-split_first.ensures

pub returns-in_err-keep_sum-in-Some-2-clause-too_wide :
    goal.returns-in_err-keep_sum-in-Some-2-clause-too_wide
returns-in_err-keep_sum-in-Some-2-clause-too_wide c = λ w. as_passed (λ ps. ¬ AllBelow term_limit ps) c.args.ones.now _ _ c.args.others.now (to_z-of_z w128 c.args.by c.ranges.by) (too_wide_both _ _ _ _ _ _ _ _ _ _ _ (lit< tt) c.loop-other.invariant c.in-Some-split_first.ensures.cases.0 c.in-Some.ensures.cases.0 (search rules) (search (rules, w)))

pub loop-other-preserved-then-is_of : goal.loop-other-preserved-then-is_of
loop-other-preserved-then-is_of c = step_both _ _ _ _ _ _ _ _ _ _ _ _ c.loop-other.invariant c.in-Some-split_first.ensures.cases.0 c.in-Some.ensures.cases.0 (search rules) c.in_ok-keep_sum-in-Some-2.ensures.ok

pub returns-in_err-keep_product-in_default-split_first-clause-too_wide :
    goal.returns-in_err-keep_product-in_default-split_first-clause-too_wide
returns-in_err-keep_product-in_default-split_first-clause-too_wide c = λ e. as_passed (λ ps. ¬ AllBelow term_limit ps) c.args.ones.now _ _ c.args.others.now (to_z-of_z w128 c.args.by c.ranges.by) (too_wide_right _ _ _ _ _ _ _ _ _ (lit< tt) c.loop-other.invariant c.in-Some.ensures.cases.0
    (elim c.in_default-split_first.branch [
      | in_default-split_first-via-in-Some-2+else-is_of w ↦ above_first _ _ _ _ _ _ _ _ _ _ c.loop-other.invariant w.in-Some-split_first.ensures.cases.0 (after _ _ _ _ w.is_before.ensures w.if-is_before.false w.is_of.ensures w.if-is_of.false)
      | in_default-split_first-via-in_default-split_first w ↦ above_nothing _ _ w.in_default-split_first.ensures.cases
    ])
    (search (rules, e)))

pub loop-other-preserved : goal.loop-other-preserved
loop-other-preserved c = step_right _ _ _ _ _ _ _ _ _ _ c.loop-other.invariant c.in-Some.ensures.cases.0
    (elim c.in_default-split_first.branch [
      | in_default-split_first-via-in-Some-2+else-is_of w ↦ above_first _ _ _ _ _ _ _ _ _ _ c.loop-other.invariant w.in-Some-split_first.ensures.cases.0 (after _ _ _ _ w.is_before.ensures w.if-is_before.false w.is_of.ensures w.if-is_of.false)
      | in_default-split_first-via-in_default-split_first w ↦ above_nothing _ _ w.in_default-split_first.ensures.cases
    ])
    c.in_ok-keep_product-in_default-split_first.ensures.ok

pub returns-clause-ok : goal.returns-clause-ok
returns-clause-ok c = as_passed (λ ps. (c.extend_from_slice.new.self.items ≡ ps) × AllBelow term_limit c.extend_from_slice.new.self.items) c.args.ones.now _ _ c.args.others.now (to_z-of_z w128 c.args.by c.ranges.by) (ends _ _ _ _ _ _ _ _ c.loop-other.invariant c.in_default.ensures.cases (search rules))
