use Rattle.std.proofs.Common.{take}
use Rattle.carol_elimination.specs.Stage.{first_stage}
use Rattle.carol_elimination.specs.Derived.{AreDerived}
use Rattle.carol_elimination.specs.Stands.{Stand}
use Rattle.carol_elimination.specs.Entries.{terms_of, rows_in, AreInside}
use Rattle.carol_elimination.proofs.elimination.first.Given as goal

abbrev pub invariant-loop-at : goal.invariant-loop-at
invariant-loop-at l = record {
  inside : AreInside l.arena l.stage.rows.items;
  stand : Stand (rows_in l.arena l.stage.rows.items) (first_stage (take l.at (terms_of l.given)));
  derived : AreDerived (terms_of l.given) l.arena;
}
