use Rattle.std.proofs.Common.{◌+◌, rules, sym, subst}
use Rattle.carol_formula.specs.Linear.{Linear}
use Rattle.carol_names.specs.Bounded.{IsBounded, most_sum}
use Rattle.carol_names.proofs.Bounds.{difference-within, difference-bounded}
use Rattle.carol_names.proofs.arithmetic.minus.Goals as goal

pub unreachable-requires : goal.unreachable-requires
unreachable-requires c = c.sub.ensures.too_wide (search rules) (difference-within c.args.one.now c.args.other.now c.requires.one c.requires.other)

pub returns-in-Ok-clause-bounded : goal.returns-in-Ok-clause-bounded
returns-in-Ok-clause-bounded c =
    subst (λ (t : Linear). IsBounded (most_sum + most_sum) t) (sym c.in-Ok.ensures.ok.0) (difference-bounded c.args.one.now c.args.other.now c.requires.one c.requires.other)
