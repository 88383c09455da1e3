use Rattle.std.specs.Int.{w128}
use Rattle.std.proofs.lemmas.Int.{to_z-of_z}
use Rattle.carol_formula.specs.Bounds.{term_limit}
use Rattle.carol_formula.proofs.NamedWeights.{light_sum}
use Rattle.carol_formula.proofs.renaming.plus_name.Goals as goal

pub plus-requires : goal.plus-requires
plus-requires g c = light_sum term_limit c.args.sum.now c.in_ok-name.name c.in_ok-product.product c.args.by _ c.in_ok-product.ensures (to_z-of_z w128 c.args.by c.ranges.by) (rw c.in_ok-name.ensures c.requires.light)
