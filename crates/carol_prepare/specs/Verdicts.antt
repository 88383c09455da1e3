-- What is told of a program: why it isn't accepted, or what is said of it with its table of
-- accords.
use Rattle.std.specs.Prelude.{◌≡◌, ◌⊎◌, Option, Some, None}
use Rattle.carol_accept.specs.Refusals.{HandsBack, IsFault, IsKeptAs, IsRefusedFor}
use Rattle.carol_accept.specs.Verdicts.{verdict_text}
use Rattle.carol_accept.specs.declared.refused.Refused.{Refused}
use Rattle.carol_accept.specs.declared.refused.Refused.TheVariants as refused
use Rattle.carol_program.specs.declared.program.Program.{Program}
use Rattle.carol_program.specs.Rules.{rules_in}
use Rattle.carol_reading.specs.Good.{IsAccepted}
use Rattle.carol_reading.specs.Kept.{Kept}
use Rattle.carol_reply.specs.declared.status.Status.TheVariants as status
use Rattle.carol_reply.specs.Texts.{Answer}

-- the answer to a refusal; want of memory has none
abbrev pub verdict_answer : Refused → Option Answer
verdict_answer (refused.Undecided program place why) =
    Some (status.Undecided, verdict_text (refused.Undecided program place why))
verdict_answer refused.NoMemory = None
verdict_answer said = Some (status.Refused, verdict_text said)

-- the first place of the program that isn't proved is told, with numbers that break what is asked
-- there, or with the reason that it stays undecided; where it is broken the program isn't accepted
pub record IsToldRefused (program : Program) (answer : Answer) : Type 0 where
  pub refused : Refused
  pub back : HandsBack program refused
  pub why : IsRefusedFor (rules_in program) refused
  pub fault : IsFault refused → ¬ IsAccepted (rules_in program)
  pub told : verdict_answer refused ≡ Some answer

-- it is accepted, and this is said of it with its table
pub record IsOfAccepted
    (said : Kept → Answer → Type 0) (program : Program) (answer : Answer) : Type 0 where
  pub kept : Kept
  pub is_kept : IsKeptAs program kept
  pub says : said kept answer

-- the answer to a program, by what is said of an accepted one
abbrev pub VerdictSays : (Kept → Answer → Type 0) → Program → Answer → Type 0
VerdictSays said program answer = IsToldRefused program answer ⊎ IsOfAccepted said program answer
