-- How many parts of a program can be numbered.
use Rattle.std.specs.Prelude.{◌≤◌, length}
use Rattle.std.specs.List.{AllByRecursion}
use Rattle.carol_syntax.specs.Files.{OpTree, ProgramTree}
use Rattle.carol_syntax.specs.Size.{cell_total}
use Rattle.carol_names.specs.Numbered.{most_numbers}

abbrev pub HasFewParams : OpTree → Type 0
HasFewParams op = length op.params ≤ most_numbers

-- its cells, its guards and the parameters of each operation have numbers
pub record CanBeNumbered (program : ProgramTree) : Type 0 where
  pub cells : cell_total program.cells ≤ most_numbers
  pub guards : length program.guards ≤ most_numbers
  pub ops : AllByRecursion HasFewParams program.ops
