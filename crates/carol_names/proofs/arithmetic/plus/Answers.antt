use Rattle.std.proofs.Common.{rules}
use Rattle.carol_names.proofs.Bounds.{sum-of-sum-within}
use Rattle.carol_names.proofs.arithmetic.plus.Goals as goal

pub unreachable-requires : goal.unreachable-requires
unreachable-requires c = c.add.ensures.too_wide (search rules) (sum-of-sum-within c.args.one.now c.args.other.now c.requires.one c.requires.other)
