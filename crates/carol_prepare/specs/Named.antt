-- What is told of a program as it is written: the first fault of its names, or what is said of the
-- program that it stands for.
use Rattle.std.specs.Prelude.{◌≡◌, ◌⊎◌, [], Option, Some, None}
use Rattle.carol_meaning.specs.declared.fault.Fault.{Fault}
use Rattle.carol_meaning.specs.Faults.{IsFirst}
use Rattle.carol_meaning.specs.Programs.{names_of, program_faults, rules_of}
use Rattle.carol_program.specs.declared.program.Program.{Program}
use Rattle.carol_program.specs.Rules.{rules_in}
use Rattle.carol_reply.specs.declared.line.Line.{Line}
use Rattle.carol_reply.specs.declared.line.Line.TheVariants as line
use Rattle.carol_reply.specs.Texts.{Answer, line_answer}
use Rattle.carol_resolve.specs.declared.error.NameError.{NameError}
use Rattle.carol_resolve.specs.declared.error.NameError.TheVariants as name
use Rattle.carol_syntax.specs.Files.{ProgramTree}

-- the line that names a fault of the program
abbrev pub name_line : Fault → Line
name_line bad = line.BadName bad.span.line bad.span.column bad.kind

-- the answer to what is wrong with the names; want of memory has none
abbrev pub name_answer : NameError → Option Answer
name_answer (name.Wrong kind called span) =
    Some (line_answer (line.BadName span.line span.column kind))
name_answer name.NoMemory = None

-- the first fault of the names is told
pub record IsToldName (tree : ProgramTree) (answer : Answer) : Type 0 where
  pub bad : Fault
  pub first : IsFirst bad (program_faults tree)
  pub told : answer ≡ line_answer (name_line bad)

-- the names are right, and the tree stands for this program
pub record IsProgramOf (tree : ProgramTree) (program : Program) : Type 0 where
  pub faultless : program_faults tree ≡ []
  pub rules : rules_in program ≡ rules_of tree
  pub names : program.names ≡ names_of tree

-- and this is said of it
pub record IsOfProgram
    (said : Program → Answer → Type 0) (tree : ProgramTree) (answer : Answer) : Type 0 where
  pub program : Program
  pub is_program : IsProgramOf tree program
  pub says : said program answer

-- the answer to a program as it is written, by what is said of a program
abbrev pub NamesSay : (Program → Answer → Type 0) → ProgramTree → Answer → Type 0
NamesSay said tree answer = IsToldName tree answer ⊎ IsOfProgram said tree answer
