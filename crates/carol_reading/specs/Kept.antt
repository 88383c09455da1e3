-- A program that is accepted, with its table of accords.
use Rattle.carol_program.specs.declared.program.Program.{Program}
use Rattle.carol_program.specs.Accords.{Accords}
use Rattle.carol_program.specs.Preserving.{IsRight}
use Rattle.carol_program.specs.Rules.{rules_in}
use Rattle.carol_program.specs.WellFormed.{IsWellFormed}
use Rattle.carol_reading.specs.Good.{IsAccepted}

pub record Kept : Type 0 where
  pub program : Program
  pub accords : Accords

-- the program is well formed and accepted, and the table right
pub record MayBeKept (program : Program) (accords : Accords) : Type 0 where
  pub well_formed : IsWellFormed (rules_in program) program.names
  pub accepted : IsAccepted (rules_in program)
  pub right : IsRight (rules_in program) accords
