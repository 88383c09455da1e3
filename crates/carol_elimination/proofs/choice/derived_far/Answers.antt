use Rattle.std.proofs.Common.{◌∙◌, subst}
use Rattle.carol_formula.specs.Bounds.{term_limit}
use Rattle.carol_formula.specs.Linear.{Linear}
use Rattle.carol_formula.specs.Numbers.{number_at}
use Rattle.carol_formula.specs.Value.{FitsWithin}
use Rattle.carol_elimination.proofs.Reaching.{derived_at}
use Rattle.carol_elimination.proofs.choice.derived_far.Goals as goal

pub returns : goal.returns
returns c =
    let row = c.in_ok-copy.ensures.0 ∙ c.row.ensures in
    λ given derived chosen. record {
      derived = derived_at given c.args.arena.now c.args.at c.in_ok-steps.steps c.in_ok-copy.field-0 derived c.requires.known c.in_ok-steps.ensures row;
      far = λ fits. c.requires.far (subst (λ (r : Linear). FitsWithin term_limit r (number_at c.args.values)) row fits);
      numbers = chosen;
    }
