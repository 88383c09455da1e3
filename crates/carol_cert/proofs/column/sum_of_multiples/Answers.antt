use Rattle.std.proofs.Common.{rules}
use Rattle.std.proofs.lemmas.Int.{to_z-of_z}
use Rattle.std.specs.Prelude.{FitsSigned}
use Rattle.std.specs.Int.{w128}
use Rattle.carol_cert.proofs.Sums.{sum_bounded}
use Rattle.carol_cert.proofs.column.sum_of_multiples.Goals as goal

pub returns-clause-value : goal.returns-clause-value
returns-clause-value c =
    let m : FitsSigned w128 c.args.m = c.ranges.m in
    let x : FitsSigned w128 c.args.x = c.ranges.x in
    let n : FitsSigned w128 c.args.n = c.ranges.n in
    let y : FitsSigned w128 c.args.y = c.ranges.y in
    let first_fits : FitsSigned w128 c.in_ok-first.first = search rules in
    let second_fits : FitsSigned w128 c.in_ok-second.second = search rules in
    let first = simp to_z-of_z at c.in_ok-first.ensures.value in
    let second = simp to_z-of_z at c.in_ok-second.ensures.value in
    let total = simp to_z-of_z at c.sum_within.ensures.value in
    sum_bounded _ _ _ _ _ first second total
