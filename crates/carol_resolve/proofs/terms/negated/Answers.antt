use Rattle.std.proofs.Common.{rules}
use Rattle.carol_resolve.proofs.Signs.{negated-within}
use Rattle.carol_resolve.proofs.terms.negated.Goals as goal

pub unreachable-requires : goal.unreachable-requires
unreachable-requires c = c.scale.ensures.too_wide (search rules) (negated-within c.args.term.now c.pairs-pairs.ensures.term)
