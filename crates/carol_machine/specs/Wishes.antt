-- What a session goes on with, in the words of its acts.
use Rattle.std.specs.Prelude.{◌≡◌, ◌↔◌, ℕ, ◌<◌, Bool, true, false, if◌then◌else◌, List, length, get_or, Option, Some, None, slice_get}
use Rattle.carol_store.specs.declared.shape.CellKind.{CellKind}
use Rattle.carol_store.specs.Effects.{Ascends, IsEffect}
use Rattle.carol_program.specs.Rules.{Rules, OpRules}
use Rattle.carol_program.specs.Variables.{number_of_args}
use Rattle.carol_program.specs.declared.scenes.Command.{Command}
use Rattle.carol_program.specs.declared.scenes.SessionPlan.{SessionPlan}
use Rattle.carol_reading.specs.declared.action.Action.TheVariants as action
use Rattle.carol_reading.specs.declared.action.Action.{Action}
use Rattle.carol_reading.specs.Good.{MayLeave}
use Rattle.carol_reading.specs.Marks.{Mark}
use Rattle.carol_reading.specs.Nexts.{Suits}
use Rattle.carol_reading.specs.Readings.{Reads}
use Rattle.carol_reading.specs.Walks.{IsWalkOf}
use Rattle.carol_history.specs.Acts.{Act, attempt, has_grant, marks, place}
use Rattle.carol_machine.specs.declared.wish.Wish.{Wish}
use Rattle.carol_machine.specs.declared.wish.Wish.TheVariants as wish
use Rattle.carol_machine.specs.States.{SessionState}

-- the command under way after these acts, and its operation
pub record IsUnder (p : Rules) (plan : SessionPlan) (tries : ℕ) (done : List Act) : Type 0 where
  pub command : Command
  pub op : OpRules
  pub present : slice_get plan.commands (place tries done).command ≡ Some command
  pub found : slice_get p.ops command.op ≡ Some op

-- the operation under way reads what the attempt has left
abbrev pub ReadsSoFar : Rules → SessionPlan → ℕ → List Act → Type 0
ReadsSoFar p plan tries done = (way : IsUnder p plan tries done) →
    Reads p.shape way.op.body (number_of_args way.command.args) (marks (attempt done))

-- where a command is under way, the walk is one that its operation reads, with proper rounds
abbrev pub StandsWell : Rules → SessionState → Type 0
StandsWell p m = (command : Command) → slice_get m.plan.commands m.at.command ≡ Some command →
    IsWalkOf p command m.walk

-- a query wishes for a store, or first for its guard where that isn't live
abbrev pub wish_to_query : Bool → ℕ → Wish
wish_to_query live guard = if live then wish.Query guard else wish.Guard guard

-- the wish behind an action, by which guards are live
abbrev pub wish_of : List Bool → Action → Wish
wish_of live (action.Query guard) = wish_to_query (get_or live guard false) guard
wish_of live (action.Issue effect) = wish.Issue effect
wish_of live action.Release = wish.Release
wish_of live (action.Return value) = wish.Return value

-- an effect's cells ascend
abbrev pub IsInOrder : Wish → Type 0
IsInOrder (wish.Issue effect) = Ascends effect
IsInOrder w = Unit {0}

-- what the operation does where the wish comes true
abbrev pub action_of : Wish → Option Action
action_of (wish.Guard guard) = Some (action.Query guard)
action_of (wish.Query guard) = Some (action.Query guard)
action_of (wish.Issue effect) = Some (action.Issue effect)
action_of wish.Release = Some action.Release
action_of (wish.Return value) = Some (action.Return value)
action_of wish.Finished = None

-- the mark is one that the wish leads to: any store may answer a query
abbrev pub SuitsWish : List CellKind → Wish → Mark → Type 0
SuitsWish kinds w mark = Suits kinds (action_of w) mark

-- a guard is one that there is, and its grant is live just where the store is wished for; an effect
-- is one of the shape
abbrev pub IsFit : Rules → List Act → Wish → Type 0
IsFit p done (wish.Guard guard) = (guard < length p.guards) × (has_grant guard done ≡ false)
IsFit p done (wish.Query guard) = (guard < length p.guards) × (has_grant guard done ≡ true)
IsFit p done (wish.Issue effect) = IsEffect p.shape effect
IsFit p done wish.Release = Unit {0}
IsFit p done (wish.Return value) = Unit {0}
IsFit p done wish.Finished = ⊥

-- a command is under way, and its operation may leave just the marks that the wish leads to
pub record IsNextWish
    (p : Rules) (plan : SessionPlan) (tries : ℕ) (done : List Act) (w : Wish) : Type 0 where
  pub way : IsUnder p plan tries done
  pub next : (mark : Mark) →
      MayLeave p way.op way.command.args (marks (attempt done)) mark ↔ SuitsWish p.shape w mark
  pub fit : IsFit p done w

-- the wish is what the session goes on with after these acts
abbrev pub IsWishOf : Rules → SessionPlan → ℕ → List Act → Wish → Type 0
IsWishOf p plan tries done wish.Finished =
    slice_get plan.commands (place tries done).command ≡ None
IsWishOf p plan tries done w = IsNextWish p plan tries done w
