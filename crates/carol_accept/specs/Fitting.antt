-- Trails whose numbers are those of an operation.
use Rattle.std.specs.Prelude.{ℕ, ◌+◌, ◌≤◌, ◌<◌, length, Option, Some, None}
use Rattle.std.specs.List.{AllByRecursion}
use Rattle.carol_program.specs.Bodies.{Body, queries_in, last_number}
use Rattle.carol_program.specs.Limits.{most_queries, most_statements}
use Rattle.carol_program.specs.WellFormed.{RisesFrom, SlotsFrom}
use Rattle.carol_accept.specs.declared.trail.Trail.{Trail}

-- no slot is too large, and there are not too many rounds
pub record IsShort (t : Trail) : Type 0 where
  pub slots : AllByRecursion (λ a. a.slot < most_queries) t.asked
  pub rounds : t.rounds < most_statements

abbrev pub IsShortTrail : Option Trail → Type 0
IsShortTrail None = Unit {0}
IsShortTrail (Some t) = IsShort t

-- the body stands behind this trail in an operation
pub record StandsBehind (t : Trail) (body : Body) : Type 0 where
  pub low : ℕ
  pub slot : ℕ
  pub numbers : RisesFrom low body
  pub few_statements : last_number body ≤ most_statements
  pub rounds : t.rounds < low
  pub in_order : SlotsFrom slot body
  pub few_queries : slot + queries_in body ≤ most_queries
  pub queries : length t.asked ≤ slot
  pub slots : AllByRecursion (λ a. a.slot < most_queries) t.asked
