use Rattle.std.proofs.Common.{◌≡◌, length, subst, ap, take, arith, ◌∙◌, ℕ, List}
use Rattle.carol_formula.specs.Linear.{Linear, IsTerm}
use Rattle.carol_formula.proofs.Orders.{denied}
use Rattle.std.proofs.Math.Seq.{take-length}
use Rattle.carol_elimination.specs.Stage.{IsAbsurdRow}
use Rattle.carol_elimination.specs.Entries.{rows_in}
use Rattle.carol_elimination.specs.Outcome.{AreSound}
use Rattle.carol_elimination.proofs.Combining.{inside_next}
use Rattle.carol_elimination.proofs.Eliminating.{sound_more}
use Rattle.carol_elimination.proofs.elimination.absurd.Goals as goal

pub row-row-requires : goal.row-row-requires
row-row-requires c = inside_next c.args.arena.now c.args.rows.now c.loop-at.at-index c.requires c.loop-at-test.true

pub loop-at-preserved : goal.loop-at-preserved
loop-at-preserved c = sound_more c.args.arena.now c.args.rows.now c.loop-at.at-index c.loop-at-test.true c.loop-at.invariant (subst IsTerm c.row-row.ensures c.is_absurd.ensures.term) (subst (λ (r : Linear). ¬ IsAbsurdRow r) c.row-row.ensures (denied c.is_absurd.result (IsAbsurdRow c.row-row.result.now) c.is_absurd.ensures.value c.if-is_absurd.false))

pub returns-clause-none : goal.returns-clause-none
returns-clause-none c =
    let all : c.loop-at.at-index ≡ length c.args.rows.now = omega arith in
    subst (λ (ks : List ℕ). AreSound (rows_in c.args.arena.now ks)) (ap (λ (n : ℕ). take n c.args.rows.now) all ∙ take-length c.args.rows.now) c.loop-at.invariant
