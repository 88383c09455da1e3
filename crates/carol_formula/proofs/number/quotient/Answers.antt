use Rattle.std.proofs.Common.{◌≡◌, ◌∙◌, rules}
use Rattle.std.proofs.lemmas.Int.{to_z-of_z}
use Rattle.std.specs.Prelude.{FitsSigned}
use Rattle.std.specs.Int.{w128, int_div_euclid}
use Rattle.carol_formula.proofs.Division.{int_div_euclid-floor_of}
use Rattle.carol_formula.proofs.number.quotient.Goals as goal

pub returns : goal.returns
returns c =
    let number : FitsSigned w128 c.args.number = c.ranges.number in
    let divisor : FitsSigned w128 c.args.divisor = c.ranges.divisor in
    let quotient : c.div_euclid.result ≡ int_div_euclid c.args.number c.args.divisor = simp to_z-of_z at c.div_euclid.ensures in
    let fits : FitsSigned w128 c.div_euclid.result = search rules in
    to_z-of_z w128 c.div_euclid.result fits ∙ quotient ∙ int_div_euclid-floor_of c.args.number c.args.divisor c.requires.positive
