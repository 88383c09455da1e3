-- A house for a run that picks none.
use Rattle.std.specs.Prelude.{[]}
use Rattle.carol_formula.specs.declared.formula.Formula.TheVariants as formula
use Rattle.carol_house.specs.House.{House}

-- over nothing, in an empty scene, with an empty history
abbrev pub no_house : House
no_house = record {
  kept = record {
    program = record {
      shape = [];
      initial = [];
      invariant = formula.True;
      guards = [];
      ops = [];
      names = record { cells = []; guards = []; ops = [] };
    };
    accords = record { kinds = []; guards = 0; entries = [] };
  };
  scene = record { replicas = 0; tries = 0; workers = 0; gossipers = 0; sessions = [] };
  history = [];
  spare = 0;
}
