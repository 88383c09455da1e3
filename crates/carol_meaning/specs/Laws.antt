-- What holds of the program that a tree stands for.
use Rattle.std.specs.Prelude.{◌≡◌, []}
use Rattle.carol_syntax.specs.Files.{ProgramTree}
use Rattle.carol_syntax.specs.Shape.{IsProgram}
use Rattle.carol_meaning.specs.Sizes.{IsShortProgram}
use Rattle.carol_program.specs.WellFormed.{IsWellFormed}
use Rattle.carol_meaning.specs.Programs.{program_faults, rules_of, names_of}

-- where a tree of the grammar is short enough and nothing is wrong with it, its program is well formed
abbrev pub FaultlessIsWellFormed : Type 0
FaultlessIsWellFormed =
    (tree : ProgramTree) → IsProgram tree → IsShortProgram tree → program_faults tree ≡ [] →
    IsWellFormed (rules_of tree) (names_of tree)
