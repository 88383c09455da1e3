use Rattle.std.proofs.Common.{◌≡◌, ◌∙◌, ap, rules}
use Rattle.std.proofs.lemmas.Int.{to_z-of_z}
use Rattle.std.specs.Int.{cast_unsigned as of_z}
use Rattle.std.specs.Prelude.{FitsSigned, pos}
use Rattle.std.specs.Int.{w128, int_rem_euclid, int_div_euclid}
use Rattle.carol_formula.proofs.Division.{divides_from_rest, rest_from_divides, int_div_euclid-floor_of}
use Rattle.carol_cert.proofs.column.quotient.Goals as goal

pub returns-then-rem_euclid-eq0-clause-value : goal.returns-then-rem_euclid-eq0-clause-value
returns-then-rem_euclid-eq0-clause-value c =
    let number : FitsSigned w128 c.args.number = c.ranges.number in
    let divisor : FitsSigned w128 c.args.divisor = c.ranges.divisor in
    let none : int_rem_euclid c.args.number c.args.divisor ≡ pos 0 = search rules in
    let quotient : c.div_euclid.result ≡ int_div_euclid c.args.number c.args.divisor = simp to_z-of_z at c.div_euclid.ensures in
    let fits : FitsSigned w128 c.div_euclid.result = search rules in
    rw c.in-Coefficient.is (
      divides_from_rest c.args.number c.args.divisor c.requires.positive none,
      to_z-of_z w128 c.div_euclid.result fits ∙ quotient ∙ int_div_euclid-floor_of c.args.number c.args.divisor c.requires.positive,
    )

pub returns-else-rem_euclid-eq0-clause-value : goal.returns-else-rem_euclid-eq0-clause-value
returns-else-rem_euclid-eq0-clause-value c =
    let number : FitsSigned w128 c.args.number = c.ranges.number in
    let divisor : FitsSigned w128 c.args.divisor = c.ranges.divisor in
    let rest : c.rem_euclid.result ≡ int_rem_euclid c.args.number c.args.divisor = simp to_z-of_z at c.rem_euclid.ensures.value in
    rw c.in-Coefficient.is (λ divides. c.if-rem_euclid-eq0.false (ap (of_z w128) (rest ∙ rest_from_divides c.args.number c.args.divisor c.requires.positive divides)))
