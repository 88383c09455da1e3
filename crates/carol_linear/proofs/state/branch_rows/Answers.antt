use Rattle.std.proofs.Common.{List, [], ◌∷◌, ◌++◌, take, sym, ◌∙◌, ap}
use Rattle.std.proofs.lemmas.List.{map_push}
use Rattle.carol_formula.specs.Linear.{Linear}
use Rattle.carol_formula.specs.declared.term.Row.{Row}
use Rattle.carol_elimination.specs.Entries.{terms_of}
use Rattle.carol_linear.specs.Path.{frame_rows}
use Rattle.carol_linear.proofs.Paths.{frame_rows-take}
use Rattle.carol_linear.proofs.state.branch_rows.Goals as goal

pub loop-frame-preserved : goal.loop-frame-preserved
loop-frame-preserved c =
    ap terms_of c.in_ok-push.ensures.ok
    ∙ map_push (λ (r : Row). r.0) c.loop-frame.rows c.in_ok-row.field-0
    ∙ ap (λ (rows : List Linear). rows ++ c.in_ok-row.field-0.0 ∷ []) c.loop-frame.invariant
    ∙ ap (λ (t : Linear). frame_rows (take c.loop-frame.frame-index c.args.frames.now) ++ t ∷ []) c.in_ok-row.ensures
    ∙ sym (frame_rows-take c.args.frames.now c.loop-frame.frame-index c.frame-item.result c.loop-frame-test.true c.frame-item.is)
