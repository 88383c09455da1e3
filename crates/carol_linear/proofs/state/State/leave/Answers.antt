use Rattle.std.proofs.Common.{◌∙◌, refl, ap}
use Rattle.std.specs.Prelude.{Option}
use Rattle.carol_linear.specs.Near.{rows_back, names_back}
use Rattle.carol_linear.specs.declared.place.Covered.{Covered}
use Rattle.carol_linear.proofs.state.State.leave.Goals as goal

pub returns-clause-some : goal.returns-clause-some
returns-clause-some c = record {
  last = c.in_ok-frame.frame;
  leaves = record {
    frames = c.in_ok-frame.ensures.items;
    rows = c.take_back.ensures.rows ∙ ap (λ (o : Option Covered). rows_back o c.args.self.now.place.rows.items) c.take.ensures.value;
    names = c.take_back.ensures.names ∙ ap (λ (o : Option Covered). names_back o c.args.self.now.place.names.items) c.take.ensures.value;
    keeps = record { claims = refl; left = refl; has_gap = refl };
  };
  same = record { variable = refl; k = refl; low = refl };
}
