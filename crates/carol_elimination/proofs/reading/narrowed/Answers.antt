use Rattle.std.proofs.Common.{◌≡◌, subst, sym, arith, rules}
use Rattle.std.proofs.lemmas.Int.{to_z-of_z, ints}
use Rattle.std.specs.Prelude.{FitsSigned, ℤ, ◌↔◌, ◌⊎◌, pos, Some, ◌+ℤ◌, ◌*ℤ◌, ◌≤ℤ◌, ◌<ℤ◌}
use Rattle.std.specs.Int.{w128}
use Rattle.carol_formula.specs.Bounds.{IsBelow, term_limit}
use Rattle.carol_formula.specs.Numbers.{number_at}
use Rattle.carol_elimination.specs.Stage.{factor_of}
use Rattle.carol_elimination.specs.Limits.{IsAtMost, IsAtLeast}
use Rattle.carol_elimination.proofs.Fitting.{value_below}
use Rattle.carol_elimination.proofs.Bounding.{bounds_free, bounds_above, bounds_below}
use Rattle.carol_elimination.proofs.reading.narrowed.Goals as goal

pub returns-then-coefficient-eq0-clause-some : goal.returns-then-coefficient-eq0-clause-some
returns-then-coefficient-eq0-clause-some c =
    let none : factor_of c.args.x c.args.row.now ≡ pos 0 = omega (arith, ints, c.coefficient-coefficient.ensures.value) in
    λ rows are. bounds_free c.args.x rows c.args.row.now (number_at c.args.values.now) c.args.bounds none are

pub upper_bound-bound-requires-clause-small : goal.upper_bound-bound-requires-clause-small
upper_bound-bound-requires-clause-small c =
    let small : IsBelow term_limit c.in_ok-rest.rest = subst (IsBelow term_limit) (sym c.in_ok-rest.ensures.1) (value_below term_limit c.args.row.now (number_at c.args.values.now) c.in_ok-rest.ensures.0) in
    let rest : FitsSigned w128 c.in_ok-rest.rest = search rules in
    subst (IsBelow term_limit) (sym (to_z-of_z w128 c.in_ok-rest.rest rest)) small

pub lower_bound-bound-requires-clause-small : goal.lower_bound-bound-requires-clause-small
lower_bound-bound-requires-clause-small c =
    let small : IsBelow term_limit c.in_ok-rest.rest = subst (IsBelow term_limit) (sym c.in_ok-rest.ensures.1) (value_below term_limit c.args.row.now (number_at c.args.values.now) c.in_ok-rest.ensures.0) in
    let rest : FitsSigned w128 c.in_ok-rest.rest = search rules in
    subst (IsBelow term_limit) (sym (to_z-of_z w128 c.in_ok-rest.rest rest)) small

pub returns-then-coefficient-gt0-clause-some : goal.returns-then-coefficient-gt0-clause-some
returns-then-coefficient-gt0-clause-some c =
    let rest : FitsSigned w128 c.in_ok-rest.rest = search rules in
    let coefficient : FitsSigned w128 c.coefficient-coefficient.result = search rules in
    let bound : FitsSigned w128 c.upper_bound-bound.result = search rules in
    let lesser : FitsSigned w128 c.lesser.result = search rules in
    let positive : pos 0 <ℤ c.coefficient-coefficient.result = omega (arith, ints, c.if-coefficient-gt0.true) in
    let exact : (z : ℤ) → ((c.in_ok-rest.rest +ℤ (c.coefficient-coefficient.result *ℤ z)) ≤ℤ pos 0) ↔ (z ≤ℤ c.upper_bound-bound.result) = simp to_z-of_z at c.upper_bound-bound.ensures.exact in
    let both : (z : ℤ) → (IsAtMost c.args.bounds.high z × (z ≤ℤ c.upper_bound-bound.result)) ↔ (z ≤ℤ c.lesser.result) = simp to_z-of_z at c.lesser.ensures.both in
    let one : (c.args.bounds.high ≡ Some c.lesser.result) ⊎ (c.lesser.result ≡ c.upper_bound-bound.result) = simp to_z-of_z at c.lesser.ensures.one in
    λ rows are. simp to_z-of_z (bounds_above c.args.x rows c.args.row.now (number_at c.args.values.now) c.args.bounds c.coefficient-coefficient.result c.in_ok-rest.rest c.upper_bound-bound.result c.lesser.result c.requires c.coefficient-coefficient.ensures.value c.in_ok-rest.ensures.1 positive exact c.upper_bound-bound.ensures.small both one are)

pub returns-else-coefficient-gt0-clause-some : goal.returns-else-coefficient-gt0-clause-some
returns-else-coefficient-gt0-clause-some c =
    let rest : FitsSigned w128 c.in_ok-rest.rest = search rules in
    let coefficient : FitsSigned w128 c.coefficient-coefficient.result = search rules in
    let bound : FitsSigned w128 c.lower_bound-bound.result = search rules in
    let greater : FitsSigned w128 c.greater.result = search rules in
    let negative : c.coefficient-coefficient.result <ℤ pos 0 = omega (arith, ints, c.if-coefficient-gt0.false, c.if-coefficient-eq0.false) in
    let exact : (z : ℤ) → ((c.in_ok-rest.rest +ℤ (c.coefficient-coefficient.result *ℤ z)) ≤ℤ pos 0) ↔ (c.lower_bound-bound.result ≤ℤ z) = simp to_z-of_z at c.lower_bound-bound.ensures.exact in
    let both : (z : ℤ) → (IsAtLeast c.args.bounds.low z × (c.lower_bound-bound.result ≤ℤ z)) ↔ (c.greater.result ≤ℤ z) = simp to_z-of_z at c.greater.ensures.both in
    let one : (c.args.bounds.low ≡ Some c.greater.result) ⊎ (c.greater.result ≡ c.lower_bound-bound.result) = simp to_z-of_z at c.greater.ensures.one in
    λ rows are. simp to_z-of_z (bounds_below c.args.x rows c.args.row.now (number_at c.args.values.now) c.args.bounds c.coefficient-coefficient.result c.in_ok-rest.rest c.lower_bound-bound.result c.greater.result c.requires c.coefficient-coefficient.ensures.value c.in_ok-rest.ensures.1 negative exact c.lower_bound-bound.ensures.small both one are)
