use Rattle.std.proofs.Common.{◌<◌, ◌^◌, length, arith, ap, length-append}
use Rattle.std.specs.Fmt.{decimal}
use Rattle.std.proofs.lemmas.Fmt.{decimal_nonempty}
use Rattle.carol_syntax.proofs.found.number.Goals as goal

pub returns-clause-some : goal.returns-clause-some
returns-clause-some c =
    let small : c.in-Ok.value < 2 ^ 64 = omega (arith, c.in-Ok.ensures.found.0) in
    omega (arith, decimal_nonempty c.in-Ok.value small, ap length c.in-Ok.ensures.found.1, length-append (decimal c.in-Ok.value) c.in-Ok.rest.now)
