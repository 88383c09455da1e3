use Rattle.std.proofs.Common.{◌<◌, List, ◌++◌, [], ◌∷◌, length, take, sym, ◌∙◌, ap, arith}
use Rattle.carol_formula.specs.Linear.{Linear}
use Rattle.carol_cert.specs.declared.step.RowStep.{RowStep}
use Rattle.carol_elimination.specs.Entries.{terms_of}
use Rattle.carol_linear.specs.Place.{names_from}
use Rattle.carol_linear.specs.Path.{frame_rows}
use Rattle.carol_linear.proofs.Paths.{rows_take, names_take}
use Rattle.carol_linear.proofs.state.State.whole.Goals as goal

pub loop-before-preserved : goal.loop-before-preserved
loop-before-preserved c =
    let fs = c.args.self.now.frames.items in
    let i = c.loop-before.before in
    let rows = terms_of c.args.rows.now ++ frame_rows (take i fs) in
    let names = c.args.names.now ++ names_from c.args.self.now.claims (frame_rows (take i fs)) in
    let inside : i < length fs = omega (arith, c.loop-before-test.true, c.len-before-end.ensures, c.args.self.now.frames.ok.0) in
    record {
      rows = c.in_ok-push.ensures.rows
          ∙ ap (λ (rs : List Linear). rs ++ c.in_ok-row.row.0 ∷ []) c.loop-before.invariant.rows
          ∙ ap (λ (t : Linear). rows ++ t ∷ []) c.in_ok-row.ensures
          ∙ sym (rows_take (terms_of c.args.rows.now) fs i c.index.result.now inside c.index.ensures);
      names = c.in_ok-push.ensures.names
          ∙ ap (λ (ns : List RowStep). ns ++ c.in_ok-name.field-0 ∷ []) c.loop-before.invariant.names
          ∙ ap (λ (name : RowStep). names ++ name ∷ []) c.in_ok-name.ensures
          ∙ sym (names_take c.args.names.now c.args.self.now.claims fs i c.index.result.now inside c.index.ensures);
    }
