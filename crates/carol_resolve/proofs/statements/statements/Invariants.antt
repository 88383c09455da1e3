use Rattle.std.proofs.Common.{◌≡◌, ◌≤◌, ◌+◌, length}
use Rattle.std.specs.List.{AllByRecursion}
use Rattle.carol_syntax.specs.Shape as shape
use Rattle.carol_syntax.specs.Size.{most_items}
use Rattle.carol_meaning.specs.Sizes.{IsShortStatement}
use Rattle.carol_program.specs.Bodies.{Body}
use Rattle.carol_meaning.specs.Faults.{earliest}
use Rattle.carol_meaning.specs.Bodies.{behind, plain_faults, chain}
use Rattle.carol_resolve.specs.Heads.{with_heads}
use Rattle.carol_resolve.proofs.statements.statements.Given as goal

abbrev pub invariant-loop-statement : goal.invariant-loop-statement
invariant-loop-statement l = record {
  faults : earliest l.finder (plain_faults l.around l.at l.left) ≡ earliest l.fn.finder (plain_faults l.around l.fn.at l.plain);
  heads : (last : Body) → with_heads l.heads.items (chain l.around l.at l.left last) ≡ chain l.around l.fn.at l.plain last;
  place : behind l.around l.at l.left ≡ behind l.around l.fn.at l.plain;
  number : l.at.number + length l.left ≤ most_items + 1;
  shape : AllByRecursion shape.IsStatement l.left;
  sized : AllByRecursion IsShortStatement l.left;
}

abbrev pub decreases-loop-statement : goal.decreases-loop-statement
decreases-loop-statement l = length l.left
