use Rattle.std.proofs.Common.{◌≡◌, take}
use Rattle.carol_elimination.specs.Entries.{steps_of}
use Rattle.carol_elimination.proofs.arena.Arena.steps_to.Given as goal

abbrev pub invariant-loop-entry : goal.invariant-loop-entry
invariant-loop-entry l = l.steps ≡ steps_of (take l.entry-index l.front)
