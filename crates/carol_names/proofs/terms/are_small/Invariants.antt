use Rattle.std.proofs.Common.{◌≡◌, length}
use Rattle.carol_meaning.specs.Terms.{are_small}
use Rattle.carol_names.proofs.terms.are_small.Given as goal

abbrev pub invariant-loop-pair : goal.invariant-loop-pair
invariant-loop-pair l = are_small l.left ≡ are_small l.pairs

abbrev pub decreases-loop-pair : goal.decreases-loop-pair
decreases-loop-pair l = length l.left
