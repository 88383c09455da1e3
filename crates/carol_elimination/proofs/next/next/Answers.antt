use Rattle.std.proofs.Common.{ℕ, List, subst, sym, ap, ◌∙◌}
use Rattle.carol_formula.specs.Linear.{Linear}
use Rattle.carol_elimination.specs.Stage.{uppers, next}
use Rattle.carol_elimination.specs.Stands.{Stand}
use Rattle.carol_elimination.specs.Entries.{rows_in}
use Rattle.carol_elimination.specs.Extends.{Extend}
use Rattle.carol_elimination.specs.Sides.{AreAllPairs}
use Rattle.carol_elimination.proofs.Combining.{all_pairs, stand_of_parts}
use Rattle.carol_elimination.proofs.next.next.Goals as goal

pub combine_all-requires-clause-pairs : goal.combine_all-requires-clause-pairs
combine_all-requires-clause-pairs c =
    let us = ap (rows_in c.args.arena.now) c.deref-2.ensures.value ∙ c.in_ok-uppers.ensures.filter in
    let ls = ap (rows_in c.args.arena.now) c.deref-3.ensures.value ∙ c.in_ok-lowers.ensures.filter in
    subst (λ (rs : List Linear). AreAllPairs c.args.x rs (rows_in c.args.arena.now c.deref-3.result.now)) (sym us)
    (subst (λ (rs : List Linear). AreAllPairs c.args.x (uppers c.args.x (rows_in c.args.arena.now c.args.rows.now)) rs) (sym ls) (all_pairs c.args.x (rows_in c.args.arena.now c.args.rows.now) c.requires.lowest))

pub returns-clause-stand : goal.returns-clause-stand
returns-clause-stand c =
    let free = ap (rows_in c.args.arena.now) c.deref.ensures.value ∙ c.in_ok-free.ensures.filter in
    let us = ap (rows_in c.args.arena.now) c.deref-2.ensures.value ∙ c.in_ok-uppers.ensures.filter in
    let ls = ap (rows_in c.args.arena.now) c.deref-3.ensures.value ∙ c.in_ok-lowers.ensures.filter in
    let first = subst (λ (ks : List ℕ). Extend (rows_in c.args.arena.now ks) (rows_in c.args.arena.now c.keep_all.new.stage.rows.items) (rows_in c.args.arena.now c.deref.result.now)) c.new-stage.ensures c.in_ok-keep_all.ensures.extend in
    subst (λ (ks : List ℕ). Stand (rows_in c.combine_all.new.arena ks) (next c.args.x (rows_in c.args.arena.now c.args.rows.now))) (sym c.into_rows.ensures)
    (stand_of_parts c.args.x c.args.arena.now c.combine_all.new.arena c.deref.result.now c.deref-2.result.now c.deref-3.result.now c.keep_all.new.stage.rows.items c.combine_all.new.stage.rows.items (rows_in c.args.arena.now c.args.rows.now) free us ls first c.in_ok-combine_all.ensures.extend)
