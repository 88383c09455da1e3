use Rattle.std.proofs.Common.{List, [], ◌∷◌, ◌++◌, sym, ◌∙◌, ap}
use Rattle.carol_cert.specs.declared.step.RowStep.{RowStep}
use Rattle.carol_cert.specs.declared.step.RowStep.TheVariants.{Given}
use Rattle.carol_linear.proofs.Places.{names_from-take}
use Rattle.carol_linear.proofs.own_names.Goals as goal

pub loop-at-preserved : goal.loop-at-preserved
loop-at-preserved c =
    c.in_ok-push.ensures.items
    ∙ ap (λ (names : List RowStep). names ++ Given c.loop-at.at ∷ []) c.loop-at.invariant
    ∙ sym (names_from-take c.args.rows.now c.loop-at.at c.loop-at-test.true)
