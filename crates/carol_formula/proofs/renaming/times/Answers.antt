use Rattle.std.proofs.Common.{rules}
use Rattle.std.specs.Int.{w128}
use Rattle.std.proofs.lemmas.Int.{to_z-of_z}
use Rattle.carol_formula.specs.Bounds.{term_limit}
use Rattle.carol_formula.proofs.NamedWeights.{IsWithin-scaled}
use Rattle.carol_formula.proofs.renaming.times.Goals as goal

pub unreachable-requires : goal.unreachable-requires
unreachable-requires c = c.scale.ensures.too_wide (search rules) (IsWithin-scaled term_limit c.args.by _ c.args.term.now (to_z-of_z w128 c.args.by c.ranges.by) c.requires)
