use Rattle.std.proofs.Common.{◌∙◌}
use Rattle.carol_elimination.proofs.Reaching.{derived_at}
use Rattle.carol_linear.proofs.visit.derived.Goals as goal

pub returns-clause-derived : goal.returns-clause-derived
returns-clause-derived c rows derived =
    derived_at rows c.args.arena.now c.args.at c.in_ok-steps_to.field-0 c.in_ok-copy.field-0 derived c.requires c.in_ok-steps_to.ensures (c.in_ok-copy.ensures.0 ∙ c.row.ensures)
