use Rattle.std.proofs.Common.{rules}
use Rattle.carol_formula.specs.Bounds.{term_limit}
use Rattle.carol_formula.proofs.NamedWeights.{IsWithin-sum_of}
use Rattle.carol_formula.proofs.renaming.plus.Goals as goal

pub unreachable-requires : goal.unreachable-requires
unreachable-requires c = c.add.ensures.too_wide (search rules) (IsWithin-sum_of term_limit c.args.one.now c.args.other.now c.requires)
