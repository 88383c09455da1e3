use Rattle.std.proofs.Common.{arith}
use Rattle.std.proofs.lemmas.Int.{to_z-of_z, ints, fits_signed_from_abs}
use Rattle.std.specs.Prelude.{FitsSigned, ℤ, ◌↔◌, pos, ◌+ℤ◌, ◌-ℤ◌, ◌*ℤ◌, ◌≤ℤ◌}
use Rattle.std.specs.Int.{w128}
use Rattle.carol_elimination.proofs.Dividing.{lower_exact}
use Rattle.carol_elimination.proofs.reading.lower_bound.Goals as goal

pub returns-clause-exact : goal.returns-clause-exact
returns-clause-exact c =
    let rest : FitsSigned w128 c.args.rest = c.ranges.rest in
    let coefficient : FitsSigned w128 c.args.coefficient = c.ranges.coefficient in
    let opposite : FitsSigned w128 (pos 0 -ℤ c.args.coefficient) = fits_signed_from_abs w128 (pos 0 -ℤ c.args.coefficient) (omega (arith, ints, c.requires.coefficient)) in
    let bound : FitsSigned w128 c.upper_bound.result = fits_signed_from_abs w128 c.upper_bound.result (omega (arith, c.upper_bound.ensures.small)) in
    let turned : FitsSigned w128 (pos 0 -ℤ c.upper_bound.result) = fits_signed_from_abs w128 (pos 0 -ℤ c.upper_bound.result) (omega (arith, ints, c.upper_bound.ensures.small)) in
    let exact : (y : ℤ) → ((c.args.rest +ℤ ((pos 0 -ℤ c.args.coefficient) *ℤ y)) ≤ℤ pos 0) ↔ (y ≤ℤ c.upper_bound.result) = simp to_z-of_z at c.upper_bound.ensures.exact in
    let below = lower_exact c.args.coefficient c.args.rest c.upper_bound.result exact in
    simp to_z-of_z below
