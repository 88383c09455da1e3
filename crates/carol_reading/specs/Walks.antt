-- How far an operation has come, as it is kept: the stores that its queries got, and how many
-- statements it has done.
use Rattle.std.specs.Prelude.{◌≡◌, ℕ, ◌≤◌, List, length, Some, slice_get}
use Rattle.std.specs.List.{AllByRecursion}
use Rattle.carol_store.specs.Kinds.{CellValue}
use Rattle.carol_store.specs.Stores.{AreWords}
use Rattle.carol_program.specs.Bodies.{Body}
use Rattle.carol_program.specs.Limits.{most_queries}
use Rattle.carol_program.specs.Rules.{Rules, OpRules}
use Rattle.carol_program.specs.WellFormed.{Setting, IsFitBody}
use Rattle.carol_program.specs.declared.scenes.Command.{Command}
use Rattle.carol_reading.specs.Good.{IsReading}
use Rattle.carol_reading.specs.Marks.{Mark, queried, HasNotReturned}

pub record Progress : Type 0 where
  pub stores : List (List CellValue)
  pub done : ℕ

-- the body stands somewhere in an operation of a program that is well formed
pub record StandsSomewhere (body : Body) : Type 0 where
  pub setting : Setting
  pub slots : List ℕ
  pub fit : IsFitBody setting slots body

-- no more stores than an operation has queries, each kept in words
pub record IsKeptWalk (walk : Progress) : Type 0 where
  pub few : length walk.stores ≤ most_queries
  pub words : AllByRecursion AreWords walk.stores

-- these marks bring an operation so far
pub record BringsTo (marks : List Mark) (walk : Progress) : Type 0 where
  pub stores : queried marks ≡ walk.stores
  pub done : length marks ≡ walk.done
  pub goes_on : HasNotReturned marks

-- a walk that the command's operation reads with its arguments, with rounds as they may be
pub record IsWalkOf (p : Rules) (command : Command) (walk : Progress) : Type 0 where
  pub op : OpRules
  pub marks : List Mark
  pub ended : List (List CellValue)
  pub current : List CellValue
  pub found : slice_get p.ops command.op ≡ Some op
  pub brings : BringsTo marks walk
  pub reading : IsReading p op command.args marks ended current
