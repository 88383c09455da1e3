use Rattle.std.proofs.Common.{◌≡◌, ◌<◌, length, sym, ap, arith, ◌∙◌}
use Rattle.std.proofs.lemmas.List.{length-map}
use Rattle.carol_formula.specs.declared.term.Row.{Row}
use Rattle.carol_elimination.specs.Derived.{row_at}
use Rattle.carol_elimination.specs.Entries.{terms_of, rows_in}
use Rattle.carol_elimination.proofs.Eliminating.{given_row, given_made, first_more}
use Rattle.carol_elimination.proofs.elimination.first.Goals as goal

pub loop-at-preserved : goal.loop-at-preserved
loop-at-preserved c =
    let row : c.in_ok-row.row ≡ row_at (terms_of c.args.given.now) c.loop-at.at = c.in_ok-row.ensures.0 ∙ ap (λ (r : Row). r.0) (sym c.index-given-at.is) ∙ sym (given_row c.args.given.now c.loop-at.at c.index-given-at.result c.loop-at-test.true c.index-given-at.is) in
    let few : c.loop-at.at < length (terms_of c.args.given.now) = omega (arith, c.loop-at-test.true, length-map c.args.given.now (λ (r : Row). r.0)) in
    record {
      inside = c.in_ok-add.ensures.inside;
      stand = first_more (terms_of c.args.given.now) (rows_in c.loop-at.arena c.loop-at.stage.rows.items) (rows_in c.add.new.arena c.add.new.self.rows.items) c.loop-at.at c.in_ok-row.row few row c.loop-at.invariant.stand c.in_ok-add.ensures.extend;
      derived = c.in_ok-add.ensures.derived (terms_of c.args.given.now) (given_made c.args.given.now c.loop-at.arena c.loop-at.at _ c.in_ok-row.row (omega arith) c.loop-at-test.true row) c.loop-at.invariant.derived;
    }
