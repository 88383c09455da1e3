-- How far obligations are decided.
use Rattle.std.specs.Prelude.{◌≡◌, Result, Ok, Err, List, [], ◌∷◌, ◌++◌}
use Rattle.std.specs.List.{AllByRecursion}
use Rattle.std.specs.declared.alloc.AllocError.{AllocError}
use Rattle.carol_formula.specs.Claim.{Claim}
use Rattle.carol_program.specs.declared.places.Place.{Place}
use Rattle.carol_obligation.specs.Listed.{owed_of, owed_in}
use Rattle.carol_obligation.specs.declared.list.Obligation.{Obligation}
use Rattle.carol_typecheck.specs.declared.verdict.Verdict.{Verdict}
use Rattle.carol_typecheck.specs.declared.verdict.Verdict.TheVariants.{Good, Fails, Undecided}
use Rattle.carol_typecheck.specs.Formulas.{IsProved, IsVerdictOn}

-- the verdict on this one alone
abbrev pub IsJudged : Obligation → Verdict → Type 0
IsJudged o verdict = IsVerdictOn (owed_of o ∷ []) verdict

-- the first of the answers that isn't good
abbrev pub first_of : List (Result Verdict AllocError) → Result Verdict AllocError
first_of [] = Ok Good
first_of (Ok Good ∷ answers) = first_of answers
first_of (Ok (Fails place at) ∷ answers) = Ok (Fails place at)
first_of (Ok (Undecided place why) ∷ answers) = Ok (Undecided place why)
first_of (Err e ∷ answers) = Err e

-- all that was taken is proved but for what waits
pub record AwaitsRest (waiting : List Obligation) (taken : List (Place × Claim)) : Type 0 where
  pub judged : List (Place × Claim)
  pub proved : AllByRecursion IsProved judged
  pub whole : judged ++ owed_in waiting ≡ taken

-- what was found of all that was taken, while these wait
abbrev pub IsFoundSoFar : Verdict → List Obligation → List (Place × Claim) → Type 0
IsFoundSoFar Good waiting taken = AwaitsRest waiting taken
IsFoundSoFar (Fails place at) waiting taken = IsVerdictOn taken (Fails place at)
IsFoundSoFar (Undecided place why) waiting taken = IsVerdictOn taken (Undecided place why)
