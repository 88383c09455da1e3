use Rattle.std.proofs.Common.{◌+◌, ◌<◌, ◌≤◌, ◌^◌, length, get_or, sym, subst, arith}
use Rattle.std.specs.Prelude.{ℤ, pos, unsigned_abs}
use Rattle.std.proofs.lemmas.Option.{slice_get-get_or}
use Rattle.carol_difference.specs.Edges.{value_in}
use Rattle.carol_difference.proofs.Models.{GivesNumbers-set, difference_is, difference_near}
use Rattle.carol_difference.proofs.evidence.valuation.Goals as goal

pub loop-index-preserved : goal.loop-index-preserved
loop-index-preserved c =
    let below : c.loop-index.index < length c.args.variables.now = c.loop-index-test.true in
    let value = c.requires.near (c.loop-index.index + 1) (pos 0) (omega (arith, below, c.requires.count)) in
    let zero = c.requires.near 0 (pos 0) (omega (arith, c.requires.count)) in
    let number = difference_is (value_in c.args.values.now (c.loop-index.index + 1)) (value_in c.args.values.now 0) value zero in
    let near = difference_near (value_in c.args.values.now (c.loop-index.index + 1)) (value_in c.args.values.now 0) value zero in
    rw c.in_ok-set.ensures.ok (GivesNumbers-set c.args.variables.now c.args.values.now c.loop-index.index (get_or c.args.variables.now c.loop-index.index 0) _ c.loop-index.numbers c.requires.apart c.loop-index.invariant (slice_get-get_or c.args.variables.now c.loop-index.index 0 below) number (subst (λ (z : ℤ). unsigned_abs z ≤ 2 ^ 124) (sym number) near))
