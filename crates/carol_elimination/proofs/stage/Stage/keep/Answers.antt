use Rattle.std.proofs.Common.{subst, sym, ℕ, List, [], ◌∷◌}
use Rattle.carol_formula.specs.Linear.{Linear}
use Rattle.carol_elimination.specs.Entries.{row_in, rows_in, AreInside}
use Rattle.carol_elimination.specs.Extends.{Extend, IsVerdict}
use Rattle.carol_elimination.proofs.Extending.{known_verdict, placed_inside, placed_extends}
use Rattle.carol_elimination.proofs.stage.Stage.keep.Goals as goal

pub put-requires : goal.put-requires
put-requires c = known_verdict c.args.arena.now c.args.self.now.rows.items c.row-row.result.now c.verdict-verdict.result c.verdict-verdict.ensures

pub returns-clause-inside : goal.returns-clause-inside
returns-clause-inside c = subst (AreInside c.args.arena.now) (sym c.in_ok-put.ensures) (placed_inside c.args.arena.now c.args.self.now.rows.items c.verdict-verdict.result c.args.at c.requires.inside c.requires.known)

pub returns-clause-extend : goal.returns-clause-extend
returns-clause-extend c =
    let verdict = subst (λ (r : Linear). IsVerdict (rows_in c.args.arena.now c.args.self.now.rows.items) r c.verdict-verdict.result) c.row-row.ensures c.verdict-verdict.ensures in
    subst (λ (ks : List ℕ). Extend (rows_in c.args.arena.now c.args.self.now.rows.items) (rows_in c.args.arena.now ks) (row_in c.args.arena.now c.args.at ∷ [])) (sym c.in_ok-put.ensures) (placed_extends c.args.arena.now c.args.self.now.rows.items c.verdict-verdict.result c.args.at verdict)
