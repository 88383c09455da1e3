use Rattle.std.proofs.Common.{◌≡◌, ◌∙◌, ℕ, List, sym, ap, subst, arith, rules}
use Rattle.std.specs.Prelude.{FitsSigned, ℤ}
use Rattle.std.specs.Int.{w128}
use Rattle.std.proofs.lemmas.Int.{to_z-of_z}
use Rattle.carol_formula.specs.Numbers.{number_at, with_number}
use Rattle.carol_elimination.specs.Entries.{terms_of, rows_in, AreInside}
use Rattle.carol_elimination.specs.Limits.{AreBounds}
use Rattle.carol_elimination.specs.Choosing.{IsStuckAt, IsChoice}
use Rattle.carol_elimination.proofs.Setting.{number_at-with_number}
use Rattle.carol_elimination.proofs.Reaching.{IsReached, reach_next, last_chosen, zero_so_far, has_stage, stage_of, stuck_due, reached_true, are_met, no_variable_left, if_ok}
use Rattle.carol_elimination.proofs.choice.choose.Goals as goal

pub index-rows-requires : goal.index-rows-requires
index-rows-requires c = let stands = has_stage (terms_of c.args.given.now) c.args.variables.now c.loop-number.left.now c.in-Some.before.now c.in-Some.number.now (number_at c.loop-number.values) c.args.elimination.now.arena c.args.elimination.now.stages.items c.requires.variables c.in-Some.ensures.cases.0 c.loop-number.invariant c.requires.quiet.stages in omega (arith, c.args.elimination.now.stages.ok.0)

pub bounds_of-requires-clause-inside : goal.bounds_of-requires-clause-inside
bounds_of-requires-clause-inside c =
    let stage = stage_of (terms_of c.args.given.now) c.args.variables.now c.loop-number.left.now c.in-Some.before.now c.in-Some.number.now (number_at c.loop-number.values) c.args.elimination.now.arena c.args.elimination.now.stages.items c.index-rows.result.now c.requires.variables c.in-Some.ensures.cases.0 c.loop-number.invariant c.requires.quiet.stages c.index-rows.ensures in
    subst (AreInside c.args.elimination.now.arena) (sym c.deref.ensures.value) stage.inside

pub bounds_of-requires-clause-zero : goal.bounds_of-requires-clause-zero
bounds_of-requires-clause-zero c = zero_so_far (terms_of c.args.given.now) c.args.variables.now c.loop-number.left.now c.in-Some.before.now c.in-Some.number.now (number_at c.loop-number.values) c.requires.variables c.in-Some.ensures.cases.0 c.loop-number.invariant

pub returns-in-Err-nearest : goal.returns-in-Err-nearest
returns-in-Err-nearest c =
    let rows = rows_in c.args.elimination.now.arena c.index-rows.result.now.items in
    let stage = stage_of (terms_of c.args.given.now) c.args.variables.now c.loop-number.left.now c.in-Some.before.now c.in-Some.number.now (number_at c.loop-number.values) c.args.elimination.now.arena c.args.elimination.now.stages.items c.index-rows.result.now c.requires.variables c.in-Some.ensures.cases.0 c.loop-number.invariant c.requires.quiet.stages c.index-rows.ensures in
    let bounds = subst (λ (ks : List ℕ). AreBounds c.in-Some.number.now (rows_in c.args.elimination.now.arena ks) (number_at c.loop-number.values) c.in-Ok.bounds) c.deref.ensures.value c.in-Ok.ensures.ok in
    let k : FitsSigned w128 c.in-Err-nearest.k = search rules in
    subst (IsStuckAt (terms_of c.args.given.now) c.in-Some.number.now) (sym (to_z-of_z w128 c.in-Err-nearest.k k))
    (stuck_due (terms_of c.args.given.now) c.args.variables.now c.loop-number.left.now c.in-Some.before.now c.in-Some.number.now (number_at c.loop-number.values) c.args.elimination.now rows c.in-Ok.bounds c.in-Err-nearest.k c.requires.variables c.in-Some.ensures.cases.0 c.loop-number.invariant c.requires.quiet stage.stand bounds c.in-Err-nearest.ensures.err)

pub returns-in-Err : goal.returns-in-Err
returns-in-Err c =
    let chosen = last_chosen (terms_of c.args.given.now) c.args.variables.now c.loop-number.left.now (number_at c.loop-number.values) c.requires.variables c.loop-number.invariant in
    if_ok c.derived_far.result (IsChoice (terms_of c.args.given.now)) (λ choice is. is (terms_of c.args.given.now) c.requires.quiet.derived chosen) c.derived_far.ensures

pub loop-number-preserved : goal.loop-number-preserved
loop-number-preserved c =
    let rows = rows_in c.args.elimination.now.arena c.index-rows.result.now.items in
    let stage = stage_of (terms_of c.args.given.now) c.args.variables.now c.loop-number.left.now c.in-Some.before.now c.in-Some.number.now (number_at c.loop-number.values) c.args.elimination.now.arena c.args.elimination.now.stages.items c.index-rows.result.now c.requires.variables c.in-Some.ensures.cases.0 c.loop-number.invariant c.requires.quiet.stages c.index-rows.ensures in
    let bounds = subst (λ (ks : List ℕ). AreBounds c.in-Some.number.now (rows_in c.args.elimination.now.arena ks) (number_at c.loop-number.values) c.in-Ok.bounds) c.deref.ensures.value c.in-Ok.ensures.ok in
    let nearest : FitsSigned w128 c.in-Ok-nearest.nearest = search rules in
    let set : c.set.new.self ≡ with_number c.in-Some.number.now c.in-Ok-nearest.nearest c.loop-number.values = c.in_ok-set-in-Ok-nearest.ensures.ok ∙ ap (λ (z : ℤ). with_number c.in-Some.number.now z c.loop-number.values) (to_z-of_z w128 c.in-Ok-nearest.nearest nearest) in
    subst (IsReached (terms_of c.args.given.now) c.args.variables.now c.in-Some.before.now) (sym (ap number_at set ∙ number_at-with_number c.in-Some.number.now c.in-Ok-nearest.nearest c.loop-number.values))
    (reach_next (terms_of c.args.given.now) c.args.variables.now c.loop-number.left.now c.in-Some.before.now c.in-Some.number.now (number_at c.loop-number.values) rows c.in-Ok.bounds c.in-Ok-nearest.nearest c.requires.variables c.in-Some.ensures.cases.0 c.loop-number.invariant stage.stand bounds c.in-Ok-nearest.ensures.ok)

pub given_far-requires-clause-chosen : goal.given_far-requires-clause-chosen
given_far-requires-clause-chosen c = last_chosen (terms_of c.args.given.now) c.args.variables.now c.loop-number.left.now (number_at c.loop-number.values) c.requires.variables c.loop-number.invariant

pub returns-in-None : goal.returns-in-None
returns-in-None c =
    let none = no_variable_left c.loop-number.left.now c.in_default.ensures.cases in
    are_met (terms_of c.args.given.now) (number_at c.loop-number.values) (reached_true (terms_of c.args.given.now) c.args.variables.now c.loop-number.left.now (number_at c.loop-number.values) c.args.elimination.now none c.loop-number.invariant c.requires.quiet) c.in-None.ensures.none
