use Rattle.std.proofs.Common.{◌≡◌, ◌*◌, ◌++◌, drop}
use Rattle.carol_difference.specs.Evidence.{more_steps, sum_steps}
use Rattle.carol_difference.proofs.evidence.summed.Given as goal

abbrev pub invariant-loop-at : goal.invariant-loop-at
invariant-loop-at l = record {
  place : l.last ≡ 2 * l.at-index;
  steps : l.steps ++ more_steps l.last (drop l.at-index l.others) ≡ sum_steps l.numbers;
}
