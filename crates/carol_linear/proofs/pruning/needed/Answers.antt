use Rattle.std.proofs.Common.{◌≡◌, ◌-◌, ◌<◌, length, ap, ◌∙◌, arith, get_or, true}
use Rattle.std.specs.Prelude.{slice_set}
use Rattle.std.proofs.lemmas.Option.{slice_get-get_or}
use Rattle.std.proofs.lemmas.List.{length-set}
use Rattle.carol_cert.specs.declared.step.RowStep.TheVariants.{Given}
use Rattle.carol_linear.specs.Pruned.{mark_at}
use Rattle.carol_linear.proofs.Marking.{marked_more, mark_at-set_same, mark_at-set_other, mark_at-set_kept}
use Rattle.carol_linear.proofs.pruning.needed.Goals as goal
use Rattle.carol_linear.proofs.pruning.needed.Goals.{then-at-steps, else-at-steps}

pub loop-at-preserved-then-index : goal.loop-at-preserved-then-index
loop-at-preserved-then-index c =
    let known : c.loop-at.at - 1 < length c.args.steps.now = omega arith in
    let inside : c.loop-at.at - 1 < length c.loop-at.marks.items = omega arith in
    elim c.if-at-steps.branch [
      | then-at-steps w ↦
          let is : c.if-at-steps.marks.items ≡ slice_set c.loop-at.marks.items (c.loop-at.at - 1) true = ap (λ v. v.items) w.marks-is in
          marked_more (c.loop-at.at - 1) c.loop-at.at c.loop-at.marks.items c.if-at-steps.marks.items c.mark_parts.new.marks.items c.args.steps.now (get_or c.args.steps.now (c.loop-at.at - 1) (Given 0))
          (omega arith) (slice_get-get_or c.args.steps.now (c.loop-at.at - 1) (Given 0) known) c.loop-at.invariant
          (c.mark_parts.ensures.length ∙ ap length is ∙ length-set c.loop-at.marks.items (c.loop-at.at - 1) true)
          (λ k h. ap (λ ms. mark_at ms k) is ∙ mark_at-set_kept c.loop-at.marks.items (c.loop-at.at - 1) k inside h)
          (λ k h. ap (λ ms. mark_at ms k) is ∙ mark_at-set_other c.loop-at.marks.items (c.loop-at.at - 1) k h)
          (λ e. ap (λ ms. mark_at ms (c.loop-at.at - 1)) is ∙ mark_at-set_same c.loop-at.marks.items (c.loop-at.at - 1) inside)
          c.mark_parts.ensures.kept c.mark_parts.ensures.later c.mark_parts.ensures.parts
      | else-at-steps w ↦
          let is : c.if-at-steps.marks.items ≡ c.loop-at.marks.items = ap (λ v. v.items) w.marks-is in
          marked_more (c.loop-at.at - 1) c.loop-at.at c.loop-at.marks.items c.if-at-steps.marks.items c.mark_parts.new.marks.items c.args.steps.now (get_or c.args.steps.now (c.loop-at.at - 1) (Given 0))
          (omega arith) (slice_get-get_or c.args.steps.now (c.loop-at.at - 1) (Given 0) known) c.loop-at.invariant
          (c.mark_parts.ensures.length ∙ ap length is)
          (λ k h. ap (λ ms. mark_at ms k) is ∙ h)
          (λ k h. ap (λ ms. mark_at ms k) is)
          (λ e. absurd (w.if-at-steps.false e))
          c.mark_parts.ensures.kept c.mark_parts.ensures.later c.mark_parts.ensures.parts
    ]
