-- Which scenes are valid for a program.
use Rattle.std.specs.Prelude.{◌≡◌, ℕ, ◌+◌, ◌≤◌, ◌<◌, true, List, [], ◌∷◌, length, ℤ, Option, Some, None, slice_get, unsigned_abs}
use Rattle.std.specs.List.{AllByRecursion}
use Rattle.carol_formula.specs.Claim.{Claim, truth}
use Rattle.carol_program.specs.declared.scenes.Command.{Command}
use Rattle.carol_program.specs.declared.scenes.SessionPlan.{SessionPlan}
use Rattle.carol_program.specs.declared.scenes.Scene.{Scene}
use Rattle.carol_program.specs.Limits.{largest_literal, most_replicas, most_tries, most_workers, most_gossipers, most_sessions, most_commands}
use Rattle.carol_program.specs.Rules.{OpRules, Rules}
use Rattle.carol_program.specs.Variables.{number_of_args}

-- each refinement is true of the arguments
abbrev pub MeetsAll : List Claim → List ℤ → Type 0
MeetsAll refinements args = AllByRecursion (λ c. truth c (number_of_args args) ≡ true) refinements

-- arguments that an operation with these refinements may be called with
pub record AreArguments (refinements : List Claim) (args : List ℤ) : Type 0 where
  pub count : length args ≡ length refinements
  pub small : AllByRecursion (λ arg. unsigned_abs arg ≤ largest_literal) args
  pub meet : MeetsAll refinements args

abbrev pub AreArgumentsOf : Option OpRules → List ℤ → Type 0
AreArgumentsOf None args = ⊥
AreArgumentsOf (Some op) args = AreArguments op.params args

-- the program has the operation, and may be called with the arguments
abbrev pub IsCommandOf : Rules → Command → Type 0
IsCommandOf p c = AreArgumentsOf (slice_get p.ops c.op) c.args

abbrev pub IsPlanOf : Rules → ℕ → SessionPlan → Type 0
IsPlanOf p replicas plan = (plan.replica < replicas) × AllByRecursion (IsCommandOf p) plan.commands

-- the commands of all sessions
abbrev pub commands_in : List SessionPlan → ℕ
commands_in [] = 0
commands_in (plan ∷ plans) = length plan.commands + commands_in plans

pub record IsValidScene (p : Rules) (s : Scene) : Type 0 where
  pub some_replica : 1 ≤ s.replicas
  pub few_replicas : s.replicas ≤ most_replicas
  pub some_try : 1 ≤ s.tries
  pub few_tries : s.tries ≤ most_tries
  pub some_worker : 1 ≤ s.workers
  pub few_workers : s.workers ≤ most_workers
  pub few_gossipers : s.gossipers ≤ most_gossipers
  pub few_sessions : length s.sessions ≤ most_sessions
  pub few_commands : commands_in s.sessions ≤ most_commands
  pub sessions : AllByRecursion (IsPlanOf p s.replicas) s.sessions
