use Rattle.std.proofs.Common.{rules}
use Rattle.carol_formula.specs.Bounds.{term_limit}
use Rattle.carol_program.proofs.Holdings.{IsWithin-difference}
use Rattle.carol_program.proofs.rows.at_most.Goals as goal

pub unreachable-requires : goal.unreachable-requires
unreachable-requires c = c.sub.ensures.too_wide (search rules) (IsWithin-difference term_limit c.args.one.now c.args.other.now c.requires)
