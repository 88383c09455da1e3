use Rattle.std.proofs.Common.{rules, arith}
use Rattle.std.proofs.lemmas.Int.{to_z-of_z, ints}
use Rattle.std.specs.Prelude.{FitsSigned, pos, ◌≤ℤ◌}
use Rattle.std.specs.Int.{w128}
use Rattle.carol_cert.specs.Numbers.{numbers_of}
use Rattle.carol_cert.proofs.Sums.{adds_up}
use Rattle.carol_cert.proofs.leaf.combined.Goals as goal

pub returns-clause-value : goal.returns-clause-value
returns-clause-value c =
    let m : FitsSigned w128 c.args.m = c.ranges.m in
    let n : FitsSigned w128 c.args.n = c.ranges.n in
    let first_positive : pos 0 ≤ℤ c.args.m = omega (arith, ints) in
    let second_positive : pos 0 ≤ℤ c.args.n = omega (arith, ints) in
    let first_fits : FitsSigned w128 c.in_ok-first.first = search rules in
    let second_fits : FitsSigned w128 c.in_ok-second.second = search rules in
    let total = simp to_z-of_z at c.sum_of_multiples.ensures.value in
    adds_up (numbers_of c.args.before.now) c.args.a c.args.m c.args.b c.args.n _ _ _ first_positive second_positive c.in_ok-first.ensures.value c.in_ok-second.ensures.value total
