use Rattle.std.proofs.Common.{◌≡◌, ◌+◌, ◌++◌, ◌∷◌, [], length, subst, sym, arith, get_or}
use Rattle.std.proofs.lemmas.Option.{slice_get-get_or}
use Rattle.carol_cert.specs.declared.step.RowStep.TheVariants.{Given}
use Rattle.carol_linear.proofs.Following.{FollowsAll, follow_more, followed}
use Rattle.carol_linear.proofs.pruning.copied.Goals as goal

pub loop-at-preserved : goal.loop-at-preserved
loop-at-preserved c =
    let more = follow_more c.args.steps.now c.args.marks.now c.args.names.now c.loop-at.at c.loop-at.pruned.places.items c.loop-at.pruned.steps (get_or c.args.steps.now c.loop-at.at (Given 0)) c.requires (slice_get-get_or c.args.steps.now c.loop-at.at (Given 0) c.loop-at-test.true) c.loop-at.invariant in
    subst (λ ps. FollowsAll c.args.steps.now c.args.marks.now c.args.names.now (c.loop-at.at + 1) ps c.add.new.self.steps) (sym c.in_ok-add.ensures.places)
    (subst (λ ss. FollowsAll c.args.steps.now c.args.marks.now c.args.names.now (c.loop-at.at + 1) (c.loop-at.pruned.places.items ++ length c.loop-at.pruned.steps ∷ []) ss) (sym c.in_ok-add.ensures.steps) more)

pub returns : goal.returns
returns c =
    let all : c.loop-at.at ≡ length c.args.steps.now = omega arith in
    followed c.args.steps.now c.args.marks.now c.args.names.now c.loop-at.pruned.places.items c.loop-at.pruned.steps c.requires
    (subst (λ n. FollowsAll c.args.steps.now c.args.marks.now c.args.names.now n c.loop-at.pruned.places.items c.loop-at.pruned.steps) all c.loop-at.invariant)
