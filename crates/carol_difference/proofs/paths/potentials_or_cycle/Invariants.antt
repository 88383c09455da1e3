use Rattle.std.proofs.Common.{◌^◌, ◌-◌, length}
use Rattle.carol_difference.specs.Forest.{IsForest, IsShallow}
use Rattle.carol_difference.proofs.paths.potentials_or_cycle.Given as goal

abbrev pub invariant-loop-forest : goal.invariant-loop-forest
invariant-loop-forest l = record {
  forest : IsForest l.nodes l.edges l.forest.entries.items l.forest.latest.items;
  shallow : IsShallow l.nodes l.forest.entries.items;
}

abbrev pub decreases-loop-forest : goal.decreases-loop-forest
decreases-loop-forest l = 2 ^ 32 - length l.forest.entries.items
