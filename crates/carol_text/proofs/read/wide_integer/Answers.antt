use Rattle.std.proofs.Common.{◌≡◌, arith}
use Rattle.std.specs.Prelude.{unsigned_abs}
use Rattle.std.specs.Int.{w128}
use Rattle.std.proofs.lemmas.Int.{to_z-of_z}
use Rattle.carol_text.proofs.Found.{integer_found, integer_only}
use Rattle.carol_text.proofs.read.wide_integer.Goals as goal

pub returns-clause-found : goal.returns-clause-found
returns-clause-found c =
    let deep : c.unsigned_abs.result ≡ unsigned_abs c.args.lowest = rw (to_z-of_z w128 c.args.lowest c.ranges.lowest) at c.unsigned_abs.ensures.value in
    let high : c.unsigned_abs-2.result ≡ unsigned_abs c.args.highest = rw (to_z-of_z w128 c.args.highest c.ranges.highest) at c.unsigned_abs-2.ensures.value in
    integer_found c.front_integer.result c.unsigned_abs.result c.unsigned_abs-2.result c.args.lowest c.args.highest c.args.bytes.now deep high (omega arith) (omega arith) c.requires.lowest c.requires.highest c.front_integer.ensures

pub returns-clause-only : goal.returns-clause-only
returns-clause-only c =
    let deep : c.unsigned_abs.result ≡ unsigned_abs c.args.lowest = rw (to_z-of_z w128 c.args.lowest c.ranges.lowest) at c.unsigned_abs.ensures.value in
    let high : c.unsigned_abs-2.result ≡ unsigned_abs c.args.highest = rw (to_z-of_z w128 c.args.highest c.ranges.highest) at c.unsigned_abs-2.ensures.value in
    integer_only c.front_integer.result c.unsigned_abs.result c.unsigned_abs-2.result c.args.lowest c.args.highest c.args.bytes.now deep high (omega arith) (omega arith) c.requires.lowest c.requires.highest c.front_integer.ensures
