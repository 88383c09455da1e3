use Rattle.std.proofs.Common.{arith}
use Rattle.std.specs.Prelude.{pos, ◌<ℤ◌, ◌≤ℤ◌}
use Rattle.std.proofs.lemmas.Int.{ints}
use Rattle.carol_cert.specs.Place.{claims_at}
use Rattle.carol_cert.proofs.ColumnRows.{closes_where_vanish, not_positive, not_sound}
use Rattle.carol_cert.proofs.leaf.leaf_closes.Goals as goal

pub returns-then-number-gt0 : goal.returns-then-number-gt0
returns-then-number-gt0 c =
    let positive : pos 0 <ℤ c.in-Some.number = omega (arith, ints, c.if-number-gt0.true) in
    closes_where_vanish (claims_at c.args.place.now) c.args.steps.now c.in-Some.number _ c.in-Some.ensures positive c.cited_vanish.ensures

pub returns-else-number-gt0 : goal.returns-else-number-gt0
returns-else-number-gt0 c =
    let low : c.in-Some.number ≤ℤ pos 0 = omega (arith, ints, c.if-number-gt0.false) in
    not_positive (claims_at c.args.place.now) c.args.steps.now c.in-Some.number c.in-Some.ensures low

pub returns-in-None : goal.returns-in-None
returns-in-None c = not_sound (claims_at c.args.place.now) c.args.steps.now c.in-None.ensures
