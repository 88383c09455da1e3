use Rattle.std.proofs.Common.{◌≡◌, ◌++◌, [], length}
use Rattle.std.specs.List.{AllByRecursion}
use Rattle.carol_syntax.specs.Shape as shape
use Rattle.carol_meaning.specs.Sizes.{IsShortAtom}
use Rattle.carol_meaning.specs.Faults.{earliest}
use Rattle.carol_meaning.specs.Bodies.{issue_faults, parts_of}
use Rattle.carol_resolve.proofs.issues.issue.Given as goal

abbrev pub invariant-loop-atom : goal.invariant-loop-atom
invariant-loop-atom l = record {
  faults : earliest l.finder (issue_faults l.around l.at l.seen l.left) ≡ earliest l.fn.finder (issue_faults l.around l.at [] l.atoms);
  parts : l.parts ++ parts_of l.around l.at l.left ≡ parts_of l.around l.at l.atoms;
  shape : AllByRecursion shape.IsAtom l.left;
  sized : AllByRecursion IsShortAtom l.left;
}

abbrev pub decreases-loop-atom : goal.decreases-loop-atom
decreases-loop-atom l = length l.left
