use Rattle.std.proofs.Common.{take, drop}
use Rattle.carol_elimination.specs.Stage.{first_stage, eliminated}
use Rattle.carol_elimination.specs.Derived.{AreDerived}
use Rattle.carol_elimination.specs.Free.{Cover}
use Rattle.carol_elimination.specs.Stands.{Stand}
use Rattle.carol_elimination.specs.Entries.{terms_of, rows_in, AreInside}
use Rattle.carol_elimination.specs.Outcome.{AreStages}
use Rattle.carol_elimination.proofs.elimination.eliminate.Given as goal

abbrev pub invariant-loop-x : goal.invariant-loop-x
invariant-loop-x l = record {
  inside : AreInside l.arena l.rows.items;
  stand : Stand (rows_in l.arena l.rows.items) (eliminated (take l.x-index l.variables) (first_stage (terms_of l.given)));
  derived : AreDerived (terms_of l.given) l.arena;
  stages : AreStages (take l.x-index l.variables) (first_stage (terms_of l.given)) l.arena l.stages.items;
  cover : Cover (drop l.x-index l.variables) (eliminated (take l.x-index l.variables) (first_stage (terms_of l.given)));
}
