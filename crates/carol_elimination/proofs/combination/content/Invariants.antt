use Rattle.std.proofs.Common.{◌≡◌, ◌<◌, length}
use Rattle.carol_formula.specs.Bounds.{term_limit}
use Rattle.carol_formula.specs.Linear.{AllBelow}
use Rattle.carol_elimination.specs.Tightened.{content_with, content}
use Rattle.carol_elimination.proofs.combination.content.Given as goal

abbrev pub invariant-loop-pair : goal.invariant-loop-pair
invariant-loop-pair l = record {
  value : content_with l.sofar l.left ≡ content l.term.pairs;
  small : l.sofar < term_limit;
  below : AllBelow term_limit l.left;
}

abbrev pub decreases-loop-pair : goal.decreases-loop-pair
decreases-loop-pair l = length l.left
