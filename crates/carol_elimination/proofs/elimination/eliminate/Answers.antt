use Rattle.std.proofs.Common.{◌≡◌, ◌+◌, map, length, get_or, subst, sym, take, arith, ℕ, List, [], Vec, Global}
use Rattle.carol_formula.specs.Claim.{Le}
use Rattle.carol_cert.specs.declared.step.RowStep.{RowStep}
use Rattle.carol_cert.specs.Steps.{Closes}
use Rattle.carol_elimination.specs.Stage.{next, eliminated, first_stage}
use Rattle.carol_elimination.specs.Free.{Cover}
use Rattle.carol_elimination.specs.Stands.{Stand}
use Rattle.carol_elimination.proofs.Free.{cover_first}
use Rattle.carol_elimination.specs.Entries.{terms_of, rows_in}
use Rattle.carol_elimination.specs.Outcome.{AreStages, AreSound}
use Rattle.carol_elimination.proofs.Eliminating.{closes_at, drop_at, lowest_at, cover_more, stand_more, stages_more, quiet_outcome}
use Rattle.carol_elimination.proofs.elimination.eliminate.Goals as goal

pub loop-x-init : goal.loop-x-init
loop-x-init c = record {
  inside = c.in_ok-rows.ensures.inside;
  stand = c.in_ok-rows.ensures.stand;
  derived = c.in_ok-rows.ensures.derived;
  stages = subst (λ (ss : List (Vec ℕ Global)). AreStages [] (first_stage (terms_of c.args.given.now)) c.first.new.arena ss) (sym c.new-stages.ensures.items) tt;
  cover = subst (λ (ws : List ℕ). Cover ws (first_stage (terms_of c.args.given.now))) (sym c.requires.variables) (cover_first (terms_of c.args.given.now));
}

pub returns-in-Some : goal.returns-in-Some
returns-in-Some c = subst (λ (steps : List RowStep). Closes (map Le (terms_of c.args.given.now)) steps) (sym c.in_ok-steps_to.ensures) (closes_at (terms_of c.args.given.now) c.loop-x.arena c.in-Some.at c.loop-x.invariant.derived c.in-Some.ensures.some.0 c.in-Some.ensures.some.1)

pub returns-in-Some-absurd : goal.returns-in-Some-absurd
returns-in-Some-absurd c = subst (λ (steps : List RowStep). Closes (map Le (terms_of c.args.given.now)) steps) (sym c.in_ok-steps_to-2.ensures) (closes_at (terms_of c.args.given.now) c.loop-x.arena c.in-Some-absurd.at c.loop-x.invariant.derived c.in-Some-absurd.ensures.some.0 c.in-Some-absurd.ensures.some.1)

pub next-requires-clause-lowest : goal.next-requires-clause-lowest
next-requires-clause-lowest c =
    let rest = eliminated (take c.loop-x.x-index c.args.variables.now) (first_stage (terms_of c.args.given.now)) in
    let stand = subst (λ (ks : List ℕ). Stand (rows_in c.loop-x.arena ks) rest) (sym c.deref-in-loop-x.ensures.value) c.loop-x.invariant.stand in
    lowest_at (terms_of c.args.given.now) (rows_in c.loop-x.arena c.deref-in-loop-x.result.now) rest c.args.variables.now c.loop-x.x-index (get_or c.args.variables.now c.loop-x.x-index 0) c.requires.variables (drop_at c.args.variables.now c.loop-x.x-index c.loop-x-test.true) c.loop-x.invariant.cover stand

pub loop-x-preserved : goal.loop-x-preserved
loop-x-preserved c =
    let rows = first_stage (terms_of c.args.given.now) in
    let more = subst (λ (ks : List ℕ). Stand (rows_in c.next.new.arena c.in-Ok.more.items) (next (get_or c.args.variables.now c.loop-x.x-index 0) (rows_in c.loop-x.arena ks))) c.deref-in-loop-x.ensures.value c.in-Ok.ensures.stand in
    record {
      inside = c.in-Ok.ensures.inside;
      stand = stand_more c.args.variables.now c.loop-x.x-index (rows_in c.loop-x.arena c.loop-x.rows.items) (rows_in c.next.new.arena c.in-Ok.more.items) rows c.loop-x-test.true c.loop-x.invariant.stand more;
      derived = c.in-Ok.ensures.derived (terms_of c.args.given.now) c.loop-x.invariant.derived;
      stages = subst (λ (ss : List (Vec ℕ Global)). AreStages (take (c.loop-x.x-index + 1) c.args.variables.now) rows c.next.new.arena ss) (sym c.in_ok-push-in-Ok.ensures.items) (stages_more c.args.variables.now c.loop-x.x-index rows c.loop-x.arena c.next.new.arena c.loop-x.stages.items c.loop-x.rows c.loop-x-test.true c.in-Ok.ensures.grow c.loop-x.invariant.stages c.loop-x.invariant.inside c.loop-x.invariant.stand);
      cover = cover_more c.args.variables.now c.loop-x.x-index rows c.loop-x-test.true (drop_at c.args.variables.now c.loop-x.x-index c.loop-x-test.true) c.loop-x.invariant.cover;
    }

pub returns : goal.returns
returns c =
    let end : c.loop-x.x-index ≡ length c.args.variables.now = omega arith in
    let sound = subst (λ (ks : List ℕ). AreSound (rows_in c.loop-x.arena ks)) c.deref-2.ensures.value c.in_default-absurd.ensures.none in
    quiet_outcome (terms_of c.args.given.now) c.loop-x.arena c.loop-x.rows.items c.args.variables.now c.loop-x.stages c.loop-x.x-index end c.requires.variables c.loop-x.invariant.derived c.loop-x.invariant.stages c.loop-x.invariant.stand c.loop-x.invariant.cover sound
