use Rattle.std.proofs.Common.{◌≡◌, [], ◌++◌, length, map}
use Rattle.carol_accord.specs.Inferred.{step_of, steps_before}
use Rattle.carol_accord.proofs.steps.push_steps.Given as goal

abbrev pub invariant-loop-up : goal.invariant-loop-up
invariant-loop-up l = l.steps.items ++ (map (step_of l.cell) l.left ++ []) ≡ l.fn.steps.items ++ steps_before l.cell l.fn.kind []

abbrev pub decreases-loop-up : goal.decreases-loop-up
decreases-loop-up l = length l.left
