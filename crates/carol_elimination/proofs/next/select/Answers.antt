use Rattle.std.proofs.Common.{◌≡◌, get_or, sym, ◌∙◌, subst, ap, ℕ, [], ◌∷◌, ◌++◌, Vec, Global}
use Rattle.carol_elimination.specs.Entries.{rows_in, AreInside}
use Rattle.carol_elimination.specs.Sides.{is_of}
use Rattle.carol_elimination.proofs.Extending.{inside_push}
use Rattle.carol_elimination.proofs.Combining.{inside_next, selected_more, selected_same}
use Rattle.carol_elimination.proofs.next.select.Goals as goal
use Rattle.carol_elimination.proofs.next.select.Goals.{then-is_of+in_ok-push, else-is_of}

pub is_of-requires : goal.is_of-requires
is_of-requires c = inside_next c.args.arena.now c.args.rows.now c.loop-at.at-index c.requires c.loop-at-test.true

pub loop-at-preserved : goal.loop-at-preserved
loop-at-preserved c = elim c.if-is_of.branch [
  | then-is_of+in_ok-push w ↦
      let below = inside_next c.args.arena.now c.args.rows.now c.loop-at.at-index c.requires c.loop-at-test.true in
      let same : c.if-is_of.selected.items ≡ c.loop-at.selected.items ++ get_or c.args.rows.now c.loop-at.at-index 0 ∷ [] = ap (λ (v : Vec ℕ Global). v.items) w.selected-is ∙ w.in_ok-push.ensures.items in
      record {
        inside = subst (AreInside c.args.arena.now) (sym same) (inside_push c.args.arena.now c.loop-at.selected.items _ c.loop-at.invariant.inside below);
        filter = ap (rows_in c.args.arena.now) same ∙ selected_more (is_of c.args.side c.args.x) c.args.arena.now c.args.rows.now c.loop-at.selected.items c.loop-at.at-index c.loop-at-test.true c.loop-at.invariant.filter (sym w.if-is_of.ensures);
      }
  | else-is_of w ↦
      let same : c.if-is_of.selected.items ≡ c.loop-at.selected.items = ap (λ (v : Vec ℕ Global). v.items) w.selected-is in
      record {
        inside = subst (AreInside c.args.arena.now) (sym same) c.loop-at.invariant.inside;
        filter = ap (rows_in c.args.arena.now) same ∙ selected_same (is_of c.args.side c.args.x) c.args.arena.now c.args.rows.now c.loop-at.selected.items c.loop-at.at-index c.loop-at-test.true c.loop-at.invariant.filter (sym w.if-is_of.ensures);
      }
]
